-- The steps of a run, one after another.
use Rattle.std.proofs.Common.{◌≡◌, List, [], ◌∷◌, ◌++◌, drop, Option, refl, sym, ap, subst, ◌∙◌, append_assoc}
use Rattle.ps_rows.specs.declared.changes.Change.{Change}
use Rattle.ps_doors.specs.Connections.{Connection}
use Rattle.ps_client.specs.Clients.{PlainClient, is_pending}
use Rattle.ps_client.specs.LocalWrites.{keeping, popped, written}
use Rattle.ps_syncing.specs.declared.services.Service.{Service}
use Rattle.ps_syncing.specs.Exchanges.{Closes, Exchange}
use Rattle.ps_syncing.specs.Numbers.{IsUpload}
use Rattle.ps_syncing.specs.Runs.{AimsWhere, AreStreams, AreUploads, emptied, written_all}
use Rattle.ps_syncing.specs.Steps.{AimsAt, IsSynced, StreamsUntil, UploadsAll, UploadsFirst, UploadsSome}
use Rattle.ps_syncing.specs.Streams.{ClosesStream, IsStreamRequest}
use Rattle.ps_syncing.proofs.Failing.{Closes-none, Closes-more}

-- ---- local writes

-- a change more was written
pub written_more : (rest rest' : List Change) (change : Change) (old new base : PlainClient) → rest ≡ change ∷ rest' → new ≡ keeping (written change old.kept) old
    → keeping (written_all rest old.kept) old ≡ base → keeping (written_all rest' new.kept) new ≡ base
written_more rest rest' change old new base split is so_far =
    ap (λ (v : PlainClient). keeping (written_all rest' v.kept) v) is ∙ ap (λ (r : List Change). keeping (written_all r old.kept) old) (sym split) ∙ so_far

-- ---- uploads

uploads_more : (service : Service) (changes : List Change) (exchanges : List Exchange) (change : Change) (one : Exchange)
    → AreUploads service changes exchanges → IsUpload service change one → AreUploads service (changes ++ change ∷ []) (exchanges ++ one ∷ [])
uploads_more service [] [] change one each is = (is, tt)
uploads_more service [] (other ∷ exchanges) change one each is = absurd each
uploads_more service (other ∷ changes) [] change one each is = absurd each
uploads_more service (other ∷ changes) (first ∷ exchanges) change one each is = (each.0, uploads_more service changes exchanges change one each.1 is)

pub UploadsSome-none : (service : Service) (client : PlainClient) (closed : Option (List Connection)) → UploadsSome service client client closed closed
UploadsSome-none service client closed = record { sent = []; exchanges = []; queue_is = refl; closed = Closes-none closed; each = tt; new_is = refl }

pub UploadsSome-more : (service : Service) (a b c : PlainClient) (x y z : Option (List Connection)) → UploadsSome service a b x y → UploadsFirst service b c y z
    → UploadsSome service a c x z
UploadsSome-more service a b c x y z some first =
    let left : c.kept.queue ≡ first.changes = ap (λ (v : PlainClient). v.kept.queue) first.new_is ∙ ap (λ (q : List Change). drop 1 q) first.waited in
    let queue_now : drop 1 b.kept.queue ≡ c.kept.queue = sym (ap (λ (v : PlainClient). v.kept.queue) first.new_is) in
    record {
      sent = some.sent ++ first.change ∷ [];
      exchanges = some.exchanges ++ first.one ∷ [];
      queue_is = some.queue_is ∙ ap (λ q. some.sent ++ q) (first.waited ∙ ap (λ q. first.change ∷ q) (sym left)) ∙ sym (append_assoc some.sent (first.change ∷ []) c.kept.queue);
      closed = Closes-more x y z some.exchanges (first.one ∷ []) some.closed first.closed;
      each = uploads_more service some.sent some.exchanges first.change first.one some.each first.is;
      new_is = first.new_is ∙ ap (λ (v : PlainClient). keeping (popped v.kept) v) some.new_is
          ∙ ap (λ (q : List Change). keeping (record a.kept { queue = q }) a) queue_now;
    }

-- ---- streams

-- the exchange of a stream that is closed, with its request
pub stream_one : (service : Service) (client : PlainClient) (old new : Option (List Connection)) (Holds : Exchange → Type 0) → ClosesStream service client old new Holds
    → (one : Exchange) × Closes old new (one ∷ []) × IsStreamRequest service client one.taken × Holds one
stream_one service client old new Holds closes =
    let one = closes.closed in
    (one.0, one.1, subst (IsStreamRequest service client) (sym one.2) closes.asks, one.3)

-- ---- all of it

pub IsSynced-made : (service : Service) (changes : List Change) (a b c d e : PlainClient) (w x y z : Option (List Connection))
    → b ≡ keeping (written_all changes a.kept) a → UploadsAll service b c w x → AimsAt service c d x y → StreamsUntil service d e y z
    → IsSynced service changes a e w z
IsSynced-made service changes a b c d e w x y z wrote uploads aims streams =
    let c_is : c ≡ keeping (emptied (written_all changes a.kept)) a = uploads.new_is ∙ ap (λ (v : PlainClient). keeping (emptied v.kept) v) wrote in
    let d_is : d ≡ keeping aims.kept a = aims.new_is ∙ ap (λ (v : PlainClient). keeping aims.kept v) c_is in
    record {
      exchanges = uploads.exchanges ++ aims.exchanges ++ streams.exchanges;
      closed = Closes-more w y z (uploads.exchanges ++ aims.exchanges) streams.exchanges
          (Closes-more w x y uploads.exchanges aims.exchanges uploads.closed aims.closed) streams.closed;
      syncs = record {
        uploads = uploads.exchanges;
        numbers = aims.exchanges;
        streams = streams.exchanges;
        aimed_at = aims.kept;
        are = refl;
        uploaded = subst (λ (v : PlainClient). AreUploads service v.kept.queue uploads.exchanges) wrote uploads.each;
        aims = subst (λ (v : PlainClient). AimsWhere (is_pending v.kept.target) service v.kept aims.kept aims.exchanges) c_is aims.aims;
        streamed = subst (λ (v : PlainClient). AreStreams service v e streams.exchanges) d_is streams.are;
      };
    }

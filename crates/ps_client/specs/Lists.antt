-- The plain client as lists: for each bucket the operations that it received since it was last reset.
use Rattle.std.specs.Prelude.{◌≡◌, ℕ, if◌then◌else◌, List, [], ◌∷◌, ◌++◌, Option, Some, None, fold, option_map, unwrap_or, bytes_eq}
use Rattle.ps_bucket_log.specs.declared.ops.Op.{Op}
use Rattle.ps_bucket_log.specs.declared.ops.Op.TheVariants.{Put, Remove, Move, Clear}
use Rattle.ps_bucket_log.specs.Buckets.{bucket_of}
use Rattle.ps_client_log.specs.Kept.{Kept}
use Rattle.ps_client_log.specs.Edits.{with_taken}
use Rattle.ps_client.specs.Clients.{only_told, without_buckets}
use Rattle.ps_client.specs.Tables.{Entries, is_one_of, is_told}

abbrev pub Lists : Type 0
Lists = List ℕ → Option (List Op)

-- a CLEAR begins the list anew with itself
abbrev pub received : List Op → Op → List Op
received ops (Put id key content sum) = ops ++ Put id key content sum ∷ []
received ops (Remove id key sum) = ops ++ Remove id key sum ∷ []
received ops (Move id sum target) = ops ++ Move id sum target ∷ []
received ops (Clear id sum target) = Clear id sum target ∷ []

-- a bucket receives operations; none make no bucket
abbrev pub receiving : List ℕ → List Op → Lists → Lists
receiving name [] lists = lists
receiving name (op ∷ ops) lists = λ other. if bytes_eq name other then Some (fold received (unwrap_or (lists name) []) (op ∷ ops)) else lists other

-- what is kept of each bucket is the image of its list
abbrev pub AreImages : Lists → Kept → Type 0
AreImages lists kept = (name : List ℕ) → kept.bucket name ≡ option_map bucket_of (lists name)

-- what a line does to the buckets, it does to their lists: those that are not told go, those that are named go, and one receives operations
pub record StayImages (lists : Lists) (kept : Kept) : Type 0 where
  pub told : (entries : Entries) → AreImages (λ name. if is_told entries name then lists name else None) (only_told entries kept)
  pub left : (names : List (List ℕ)) → AreImages (λ name. if is_one_of names name then None else lists name) (without_buckets names kept)
  pub taken : (name : List ℕ) (ops : List Op) → AreImages (receiving name ops lists) (with_taken name ops kept)

-- What keeps clients led: a history that grows, and what becomes of one of them.
use Rattle.std.proofs.Common.{◌≡◌, ℕ, ◌≤◌, List, [], ◌∷◌, ◌++◌, length, Some, true, false, refl, sym, subst, inl, inr, arith, append_assoc, append-nil, length-append}
use Rattle.std.specs.Prelude.{bytes_eq}
use Rattle.std.proofs.lemmas.Bool.{cases_Bool}
use Rattle.std.proofs.lemmas.Slice.Eq.{bytes_eq-Decides}
use Rattle.ps_client.specs.Clients.{PlainClient}
use Rattle.ps_store.specs.declared.events.Event.{Event}
use Rattle.ps_store.specs.declared.fixed.Fixed.{Fixed}
use Rattle.ps_store.specs.Courses.{Course}
use Rattle.ps_store.specs.CourseLaws.{IsLawful}
use Rattle.ps_store.specs.Ledgers.{IsLegal}
use Rattle.ps_streams.specs.Headline.{Local, AreHonest, reader_of, with_local}
use Rattle.ps_streams.specs.Lives.{Link, Idle, Streaming}
use Rattle.ps_streams.specs.Runs.{Made}
use Rattle.ps_core.specs.Plays.{Play, Reader, course, with_reader}
use Rattle.ps_core.specs.PlayHeadline.{AreTakenBy, IsLed, IsLedBy, UnalteredAreLed}
use Rattle.ps_core.proofs.Grounds.{Laws, Under, lawful_in}

-- ---- one client over one course

pub honest_by : Laws → (c : Course) → IsLawful c → (n : ℕ) (client : PlainClient) (link : Link) → IsLedBy c n client link → AreHonest c n client.kept.bucket
honest_by laws c lawful n client Idle led = led
honest_by laws c lawful n client (Streaming at session waiting) led = laws.honest c at n session client waiting lawful led.leads

taken_later : (ms : List Made) (n m : ℕ) → n ≤ m → AreTakenBy n ms → AreTakenBy m ms
taken_later [] n m late taken = tt
taken_later (x ∷ xs) n m late taken = (omega (arith, late, taken.0), taken_later xs n m late taken.1)

pub later_by : Laws → (c : Course) → IsLawful c → (n m : ℕ) → n ≤ m → (client : PlainClient) (link : Link) → IsLedBy c n client link → IsLedBy c m client link
later_by laws c lawful n m late client Idle led = λ name. lawful.later.later n m name (reader_of client.kept.bucket name) late (led name)
later_by laws c lawful n m late client (Streaming at session waiting) led = record {
  late = omega (arith, late, led.late);
  taken = taken_later waiting n m late led.taken;
  leads = laws.later c at n m session client waiting lawful late led.leads;
}

pub locally_by : Laws → (c : Course) (n : ℕ) (local : Local) (client : PlainClient) (link : Link) → IsLedBy c n client link → IsLedBy c n (with_local local client) link
locally_by laws c n local client Idle led = led
locally_by laws c n local client (Streaming at session waiting) led =
    record { late = led.late; taken = led.taken; leads = laws.locally c at n session client waiting local led.leads }

-- ---- over every history that goes on

pub led_here : (fixed : Fixed) (history : List Event) (reader : Reader) → IsLegal fixed.rules history → IsLed fixed history reader
    → IsLedBy (course fixed history reader.asker) (length history) reader.client reader.link
led_here fixed history reader legal led =
    let whole : history ++ [] ≡ history = append-nil history in
    subst (λ (h : List Event). IsLedBy (course fixed h reader.asker) (length history) reader.client reader.link) whole
    (led [] (subst (λ (h : List Event). IsLegal fixed.rules h) (sym whole) legal))

pub led_grown : (fixed : Fixed) → Under fixed → (history new : List Event) (reader : Reader) → IsLed fixed history reader → IsLed fixed (history ++ new) reader
led_grown fixed under history new reader led more legal =
    let same : (history ++ new) ++ more ≡ history ++ (new ++ more) = append_assoc history new more in
    let there : IsLegal fixed.rules (history ++ (new ++ more)) = subst (λ (h : List Event). IsLegal fixed.rules h) same legal in
    let late : length history ≤ length (history ++ new) = omega (arith, length-append history new) in
    subst (λ (h : List Event). IsLedBy (course fixed h reader.asker) (length (history ++ new)) reader.client reader.link) (sym same)
    (later_by under.laws (course fixed (history ++ (new ++ more)) reader.asker) (lawful_in fixed under (history ++ (new ++ more)) reader.asker there)
    (length history) (length (history ++ new)) late reader.client reader.link (led (new ++ more) there))

pub led_locally : (fixed : Fixed) → Under fixed → (history : List Event) (reader : Reader) (local : Local) → IsLed fixed history reader
    → IsLed fixed history (record reader { client = with_local local reader.client })
led_locally fixed under history reader local led more legal =
    locally_by under.laws (course fixed (history ++ more) reader.asker) (length history) local reader.client reader.link (led more legal)

pub honest_here : (fixed : Fixed) → Under fixed → (history : List Event) (reader : Reader) → IsLegal fixed.rules history → IsLed fixed history reader
    → AreHonest (course fixed history reader.asker) (length history) reader.client.kept.bucket
honest_here fixed under history reader legal led =
    honest_by under.laws (course fixed history reader.asker) (lawful_in fixed under history reader.asker legal) (length history) reader.client reader.link
    (led_here fixed history reader legal led)

-- ---- all clients

pub one_of : {x y : Reader} → Some x ≡ Some y → x ≡ y
one_of same = cc

-- a client becomes another
pub with_led : (fixed : Fixed) (name : List ℕ) (reader : Reader) (play : Play) → (reader.altered ≡ false → IsLed fixed play.history reader) → UnalteredAreLed fixed play
    → UnalteredAreLed fixed (with_reader name reader play)
with_led fixed name reader play here others other r is plain = elim (cases_Bool (bytes_eq name other)) [
  | inl same ↦
      let own : Some reader ≡ Some r = rw same at is in
      subst (λ (x : Reader). x.altered ≡ false → IsLed fixed play.history x) (one_of own) here plain
  | inr differs ↦
      let old : play.readers other ≡ Some r = rw differs at is in
      others other r old plain
]

pub with_same : (name : List ℕ) (reader : Reader) (play : Play) → (with_reader name reader play).readers name ≡ Some reader
with_same name reader play = let same : bytes_eq name name ≡ true = (bytes_eq-Decides name name).1 refl in rw same refl

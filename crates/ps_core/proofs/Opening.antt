-- Clients and streams that begin, and streams that are cut.
use Rattle.std.proofs.Common.{ℕ, List, ◌++◌, length, refl}
use Rattle.ps_client.specs.declared.streams.Stream.TheVariants.{Asked}
use Rattle.ps_client.specs.Clients.{PlainClient}
use Rattle.ps_queries.specs.declared.askers.Asker.{Asker}
use Rattle.ps_store.specs.declared.events.Event.{Event}
use Rattle.ps_store.specs.declared.fixed.Fixed.{Fixed}
use Rattle.ps_streams.specs.Headline.{AreHonest, AsksOn}
use Rattle.ps_core.specs.Plays.{Play, Reader, course, first_reader, place}
use Rattle.ps_core.specs.PlayHeadline.{IsLed}
use Rattle.ps_core.specs.ReaderEvents.{opened}
use Rattle.ps_core.proofs.Grounds.{Under, lawful_in}
use Rattle.ps_core.proofs.Leading.{honest_by}
use Rattle.std.proofs.Common.{arith}

pub first_led : (fixed : Fixed) → Under fixed → (history : List Event) (asker : Asker) → IsLed fixed history (first_reader asker)
first_led fixed under history asker more legal =
    under.laws.empty (course fixed (history ++ more) asker) (length history) (lawful_in fixed under (history ++ more) asker legal)

pub opened_led : (fixed : Fixed) → Under fixed → (requested : List ℕ → ℕ) (play : Play) (reader : Reader) → AsksOn requested reader.client.kept.bucket
    → IsLed fixed play.history reader → IsLed fixed play.history (opened requested play reader)
opened_led fixed under requested play reader asks led more legal =
    let c = course fixed (play.history ++ more) reader.asker in
    let own : PlainClient = record reader.client { stream = Asked } in
    let honest : AreHonest c (place play) reader.client.kept.bucket =
    honest_by under.laws c (lawful_in fixed under (play.history ++ more) reader.asker legal) (place play) reader.client reader.link (led more legal) in
    record { late = omega arith; taken = tt; leads = under.laws.first c (place play) requested own honest refl asks }

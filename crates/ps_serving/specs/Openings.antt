-- How the history of a service begins.
use Rattle.std.specs.Prelude.{Bool, true, false, List, [], ◌∷◌, ◌++◌}
use Rattle.ps_rows.specs.declared.changes.Transaction.{Transaction}
use Rattle.ps_store.specs.declared.events.Event.{Event}
use Rattle.ps_store.specs.declared.events.Event.TheVariants.{Feed, Close}

-- the Feeds of transactions
abbrev pub feeds_of : List Transaction → List Event
feeds_of [] = []
feeds_of (t ∷ ts) = Feed t ∷ feeds_of ts

-- the feed is closed, or it is not
abbrev pub closing : Bool → List Event
closing true = Close ∷ []
closing false = []

-- all transactions are fed, and then the feed is closed where that is wanted
abbrev pub opening : Bool → List Transaction → List Event
opening closed transactions = feeds_of transactions ++ closing closed

-- A store that was made and changed by its calls and by connections alone.
use Rattle.std.specs.Prelude.{List}
use Rattle.ps_store.specs.declared.events.Event.{Event}
use Rattle.ps_store.specs.declared.fixed.Fixed.{Fixed}
use Rattle.ps_store.specs.declared.stores.Store.{Store}
use Rattle.ps_store.specs.Stores.{StoreStandsFor}

-- it stands for some history
abbrev pub IsStore : Store → Type 0
IsStore store = (fixed : Fixed) × (history : List Event) × StoreStandsFor fixed store history

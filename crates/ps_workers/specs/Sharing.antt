-- The lock of a store.
use Rattle.ps_lock.specs.declared.tables.StoreLock.{StoreLock}
use Rattle.ps_lock.specs.Words.{opened_on}
use Rattle.ps_store.specs.declared.events.Event.{Event}
use Rattle.ps_store.specs.declared.fixed.Fixed.{Fixed}
use Rattle.ps_workers.specs.declared.shared.SharedStore.{SharedStore}
use Rattle.ps_workers.specs.declared.shared.Terms.{Terms}
use Rattle.ps_workers.specs.Terms.{terms_by}

-- what a lock's history goes by
abbrev pub terms_of : StoreLock SharedStore Event Terms → Terms
terms_of lock = terms_by (opened_on lock)

-- the first rules and the limits that hold for it
abbrev pub fixed_of : StoreLock SharedStore Event Terms → Fixed
fixed_of lock = (terms_of lock).fixed

use Rattle.ps_store.proofs.stores.Store.take_uncounted.Given as goal

abbrev pub ghosts-take_in : goal.ghosts-take_in
ghosts-take_in a = record { name = a.blank.name; parts = a.blank.parts }

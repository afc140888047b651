use Rattle.std.proofs.Common.{◌≡◌, true, refl, length, Some, []}
use Rattle.std.proofs.Props.{props}
use denote.RattleType.{RattleType}
use Rattle.ps_lock.specs.declared.tables.Turn.{Turn}
use Rattle.ps_lock.specs.Rule.{is_learnt, is_out}
use Rattle.ps_lock.proofs.tables.Turn.value.Goals as goal

-- two turns that differ in the proofs of their facts alone are one
same_turn : (V E G : RattleType) (a : Turn V.Denot E.Denot G.Denot) (w : V.Denot) (p : a.place.table_id ≡ a.lock.now.table.shared.table_id) (o : a.place.me.0.origin ≡ Some a.lock.now.table.shared.key.value)
    (q : is_learnt a.place.me.0.stage ≡ true) (m : a.place.me.0.met ≡ []) (r : is_out a.place.me.1 ≡ true) (s : a.seen ≡ length a.place.me.0.seen)
    → (let b : Turn V.Denot E.Denot G.Denot = record { lock = a.lock; place = a.place; seen = a.seen; value = w; seated = p; opened = o; serving = q; bare = m; holding = r; counted = s } in b) ≡ record a { value = w }
same_turn V E G a w p o q m r s = λ i. record {
  lock = a.lock;
  place = a.place;
  seen = a.seen;
  value = w;
  seated = (let h : IsProp (a.place.table_id ≡ a.lock.now.table.shared.table_id) = hlevel (props, V.coded, E.coded) in h p a.seated i);
  opened = (let h : IsProp (a.place.me.0.origin ≡ Some a.lock.now.table.shared.key.value) = hlevel (props, V.coded, E.coded) in h o a.opened i);
  serving = (let h : IsProp (is_learnt a.place.me.0.stage ≡ true) = hlevel (props, V.coded, E.coded) in h q a.serving i);
  bare = (let h : IsProp (a.place.me.0.met ≡ []) = hlevel (props, V.coded, E.coded) in h m a.bare i);
  holding = (let h : IsProp (is_out a.place.me.1 ≡ true) = hlevel (props, V.coded, E.coded) in h r a.holding i);
  counted = (let h : IsProp (a.seen ≡ length a.place.me.0.seen) = hlevel (props, V.coded, E.coded) in h s a.counted i);
}

pub returns : goal.returns
returns g c = ((refl, λ w. same_turn g.row.V g.row.V-Entry g.row.V-Setting c.args.self.now w _ _ _ _ _ _), record { writes_back = tt; value = refl })

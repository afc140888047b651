-- What is kept depends on no room, and what room edits leave.
use Rattle.std.proofs.Common.{◌≡◌, ℕ, ◌+◌, ◌≤◌, List, [], ◌∷◌, length, arith}
use Rattle.std.specs.Prelude.{sum_by}
use Rattle.std.proofs.lemmas.List.Sums.{sum_by-cons}
use Rattle.ps_client_log.specs.declared.edits.Edit.{Edit}
use Rattle.ps_client_log.specs.declared.edits.Edit.TheVariants.{Take, Delete, Push, Pop, Aim, Show}
use Rattle.ps_client_log.specs.declared.holdings.Holdings.{Holdings}
use Rattle.ps_client_log.specs.Images.{bucket_found, room_for}
use Rattle.ps_client_log.specs.Kept.{shown_in}
use Rattle.ps_client_log.specs.Rooms.{kept_by, brings, pushes, HasRoom}

pub kept_by-same : (a b : Holdings) → ((name : List ℕ) → bucket_found a.buckets name ≡ bucket_found b.buckets name)
    → a.queue.items ≡ b.queue.items → a.target ≡ b.target → a.shown ≡ b.shown → kept_by a ≡ kept_by b
kept_by-same a b buckets queue target shown = λ i. record {
  bucket = λ name. buckets name i;
  queue = queue i;
  target = target i;
  shown = shown_in (shown i);
}

pushes-le : (edit : Edit) → pushes edit ≤ 1
pushes-le (Take bucket ops) = omega arith
pushes-le (Delete bucket) = omega arith
pushes-le (Push change) = omega arith
pushes-le Pop = omega arith
pushes-le (Aim target) = omega arith
pushes-le (Show rows) = omega arith

-- no more changes are pushed than there are edits
pub pushes-length : (edits : List Edit) → sum_by pushes edits ≤ length edits
pushes-length [] = omega arith
pushes-length (edit ∷ edits) = omega (arith, sum_by-cons pushes edit edits, pushes-le edit, pushes-length edits)

-- where there is room for edits, there is room for the first
pub HasRoom-first : (holdings : Holdings) (edit : Edit) (edits : List Edit) → HasRoom holdings (edit ∷ edits) → HasRoom holdings (edit ∷ [])
HasRoom-first holdings edit edits room = record {
  entries = λ name. omega (arith, sum_by-cons (brings name) edit edits, sum_by-cons (brings name) edit [], room.entries name);
  queue = omega (arith, sum_by-cons pushes edit edits, sum_by-cons pushes edit [], room.queue);
}

-- and once it is made, for the others
pub HasRoom-rest : (old new : Holdings) (edit : Edit) (edits : List Edit) → HasRoom old (edit ∷ edits)
    → ((name : List ℕ) → room_for old.buckets name ≤ room_for new.buckets name + brings name edit)
    → old.queue.room ≤ new.queue.room + pushes edit → HasRoom new edits
HasRoom-rest old new edit edits room entries queue = record {
  entries = λ name. omega (arith, sum_by-cons (brings name) edit edits, room.entries name, entries name);
  queue = omega (arith, sum_by-cons pushes edit edits, room.queue, queue);
}

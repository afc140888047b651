-- What a log is: operations with rising ids, of which only the first may be a CLEAR.
use Rattle.std.specs.Prelude.{◌≡◌, ℕ, ◌<◌, true, false, if◌then◌else◌, List, [], ◌∷◌}
use Rattle.std.specs.List.{list_all}
use Rattle.ps_bucket_log.specs.declared.ops.Op.{Op}
use Rattle.ps_bucket_log.specs.Ops.{id_of, is_entry, is_clear, has_clear}

-- the ids rise from past p on
abbrev pub IsRising : ℕ → List Op → Type 0
IsRising p [] = Unit {0}
IsRising p (op ∷ ops) = (p < id_of op) × IsRising (id_of op) ops

-- the id of the CLEAR, 0 where there is none
abbrev pub cleared : List Op → ℕ
cleared [] = 0
cleared (op ∷ ops) = if is_clear op then id_of op else 0

-- the operations behind the CLEAR
abbrev pub rest : List Op → List Op
rest [] = []
rest (op ∷ ops) = if is_clear op then ops else op ∷ ops

pub record IsLog (ops : List Op) : Type 0 where
  pub rising : IsRising 0 ops
  pub one_clear : has_clear (rest ops) ≡ false

-- what is written past an id: PUTs and REMOVEs, whose ids rise from past it on
pub record AreEntries (p : ℕ) (ops : List Op) : Type 0 where
  pub rising : IsRising p ops
  pub entries : list_all is_entry ops ≡ true

-- a log's operations, and for how many more it has room
pub record LogState : Type 0 where
  pub ops : List Op
  pub spare : ℕ

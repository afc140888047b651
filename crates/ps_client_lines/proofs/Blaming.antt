-- The table that is blamed.
use Rattle.std.proofs.Common.{◌≡◌, inl, inr, ℕ, sym, subst}
use Rattle.ps_client_lines.specs.declared.faults.Refusal.{Refusal}
use Rattle.ps_client_lines.specs.declared.faults.Refusal.TheVariants as refusals
use Rattle.ps_client_lines.specs.declared.faults.RowsFault.{RowsFault}
use Rattle.ps_client_lines.specs.declared.faults.RowsFault.TheVariants.{BadState, Memory}
use Rattle.ps_client_lines.specs.declared.rows.Rows.{Rows}
use Rattle.ps_client_lines.specs.Refusing.{fault_at, OnBad, AreOfHolders, AreOfQueue, BlamesBuckets, BlamesQueue, BlamesSeen, Blames}

-- what holds of the table that is named, where its rows are refused for what they have, and where memory is short, holds of the fault
pub blamed : (P : RowsFault → Type 0) (table : ℕ) {Q : Type 0} (refusal : Refusal) (fault : RowsFault) → fault ≡ fault_at table refusal → OnBad Q refusal → (Q → P (BadState table)) → P Memory → P fault
blamed P table refusals.Bad fault is has bad memory = subst P (sym is) (bad has)
blamed P table refusals.Memory fault is has bad memory = subst P (sym is) memory

pub blames_first : (rows : Rows) (fault : RowsFault) → BlamesBuckets rows fault → Blames rows fault
blames_first rows (BadState table) blames = inl blames
blames_first rows Memory blames = tt

pub blames_then : (rows : Rows) (fault : RowsFault) → AreOfHolders rows → BlamesQueue rows fault → Blames rows fault
blames_then rows (BadState table) holders blames = inr (inl (holders, blames))
blames_then rows Memory holders blames = tt

pub blames_last : (rows : Rows) (fault : RowsFault) → AreOfHolders rows → AreOfQueue rows → BlamesSeen rows fault → Blames rows fault
blames_last rows (BadState table) holders queue blames = inr (inr (holders, (queue, blames)))
blames_last rows Memory holders queue blames = tt

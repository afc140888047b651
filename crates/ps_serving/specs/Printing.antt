-- The lines that `serve` prints.
use Rattle.std.specs.Prelude.{◌≡◌, ℕ, List, ◌++◌, codes, decimal, Option, Result, Ok, Err}
use Rattle.ps_io.specs.Contents.{Gains, GainsFront}
use Rattle.ps_io.specs.Counts.{Rose}
use Rattle.ps_store.specs.declared.totals.Totals.{Totals}
use Rattle.ps_files.specs.declared.faults.Fault.{Fault}
use Rattle.ps_files.specs.declared.faults.Fault.TheVariants.{Usage, Rules, Change, PastLimit, TooManyBuckets, Claims, Keys, TooLong, CannotRead, CannotWrite, Script, Memory}

-- `listening ADDRESS` and a line feed
abbrev pub listening_line : List ℕ → List ℕ
listening_line address = codes "listening " ++ (address ++ codes "\n")

-- `transactions T changes C operations O buckets B sum S` and a line feed
abbrev pub totals_line : Totals → List ℕ
totals_line t =
    codes "transactions " ++ (decimal t.transactions
    ++ (codes " changes " ++ (decimal t.changes
    ++ (codes " operations " ++ (decimal t.operations
    ++ (codes " buckets " ++ (decimal t.buckets
    ++ (codes " sum " ++ (decimal t.sum.0 ++ codes "\n")))))))))

-- a line was printed; or the output failed, and took a front of it; or there was no memory for it
abbrev pub PrintsLine : List ℕ → Option (List ℕ) → Option (List ℕ) → ℕ → ℕ → Result (Unit {0}) Fault → Type 0
PrintsLine line old new before now (Ok done) = Gains old new line
PrintsLine line old new before now (Err Usage) = ⊥
PrintsLine line old new before now (Err (Rules which place column why)) = ⊥
PrintsLine line old new before now (Err (Change place why)) = ⊥
PrintsLine line old new before now (Err (PastLimit limit)) = ⊥
PrintsLine line old new before now (Err (TooManyBuckets count)) = ⊥
PrintsLine line old new before now (Err Claims) = ⊥
PrintsLine line old new before now (Err Keys) = ⊥
PrintsLine line old new before now (Err (TooLong seen)) = ⊥
PrintsLine line old new before now (Err (CannotRead name)) = ⊥
PrintsLine line old new before now (Err CannotWrite) = GainsFront old new line × Rose before now
PrintsLine line old new before now (Err (Script place why)) = ⊥
PrintsLine line old new before now (Err Memory) = new ≡ old

-- The lines of faults, from their pieces.
use Rattle.std.proofs.Common.{◌≡◌, ℕ, List, ◌++◌, Some, None, sym, ap, ◌∙◌, append_assoc, codes, decimal}
use Rattle.ps_files.specs.declared.faults.Fault.TheVariants.{Rules, Change, Script}
use Rattle.ps_files.specs.declared.faults.LineFault.{LineFault}
use Rattle.ps_files.specs.declared.faults.LineFault.TheVariants.{NotRising}
use Rattle.ps_files.specs.declared.faults.RulesCause.{RulesCause}
use Rattle.ps_files.specs.declared.faults.RulesFile.{RulesFile}
use Rattle.ps_files.specs.declared.faults.RulesFile.TheVariants.{First, Next}
use Rattle.ps_files.specs.declared.faults.ScriptCause.{ScriptCause}
use Rattle.ps_files.specs.FaultTexts.{fault_line}
use Rattle.ps_files.specs.RulesFaults.{cause_text}
use Rattle.ps_files.specs.Saying.{end_of_line, end_of_script, front_of, IsCauseText}

pub change_line : (line : ℕ) (why : LineFault) → codes "powersync: change " ++ (decimal line ++ end_of_line why) ≡ fault_line (Change line why)
change_line line why = simp append_assoc

pub script_line : (line : ℕ) (why : ScriptCause) → codes "powersync: script " ++ (decimal line ++ end_of_script why) ≡ fault_line (Script line why)
script_line line why = simp append_assoc

four_more : (a b c d e : List ℕ) → (a ++ b ++ c ++ d) ++ e ≡ a ++ (b ++ (c ++ (d ++ e)))
four_more a b c d e = simp append_assoc

not_rising_line : (line last given : ℕ) → codes "powersync: change " ++ (decimal line ++ (codes " not-rising " ++ (decimal last ++ (codes " " ++ (decimal given ++ codes "\n")))))
    ≡ fault_line (Change line (NotRising last given))
not_rising_line line last given =
    ap (λ end. codes "powersync: change " ++ (decimal line ++ (codes " " ++ end))) (sym (four_more (codes "not-rising ") (decimal last) (codes " ") (decimal given) (codes "\n")))
    ∙ change_line line (NotRising last given)

pub not_rising_pieces : (l a b : List ℕ) (line last given : ℕ) → l ≡ decimal line → a ≡ decimal last → b ≡ decimal given
    → codes "powersync: change " ++ (l ++ (codes " not-rising " ++ (a ++ (codes " " ++ (b ++ codes "\n"))))) ≡ fault_line (Change line (NotRising last given))
not_rising_pieces l a b line last given hl ha hb =
    ap (λ x. codes "powersync: change " ++ (x ++ (codes " not-rising " ++ (a ++ (codes " " ++ (b ++ codes "\n")))))) hl
    ∙ ap (λ x. codes "powersync: change " ++ (decimal line ++ (codes " not-rising " ++ (x ++ (codes " " ++ (b ++ codes "\n")))))) ha
    ∙ ap (λ x. codes "powersync: change " ++ (decimal line ++ (codes " not-rising " ++ (decimal last ++ (codes " " ++ (x ++ codes "\n")))))) hb
    ∙ not_rising_line line last given

rules_line : (which : RulesFile) (line column : ℕ) (why : RulesCause)
    → front_of which ++ (decimal line ++ (codes ":" ++ (decimal column ++ (codes " " ++ (cause_text why ++ codes "\n"))))) ≡ fault_line (Rules which line column why)
rules_line First line column why = simp append_assoc
rules_line Next line column why = simp append_assoc

plain_rules_line : (which : RulesFile) (line column : ℕ) (why : RulesCause) (kind : List ℕ) → IsCauseText why kind None
    → front_of which ++ (decimal line ++ (codes ":" ++ (decimal column ++ (codes " " ++ (kind ++ codes "\n"))))) ≡ fault_line (Rules which line column why)
plain_rules_line which line column why kind h = ap (λ text. front_of which ++ (decimal line ++ (codes ":" ++ (decimal column ++ (codes " " ++ (text ++ codes "\n")))))) (sym h) ∙ rules_line which line column why

counted_rules_line : (which : RulesFile) (line column : ℕ) (why : RulesCause) (kind : List ℕ) (at : ℕ) → IsCauseText why kind (Some at)
    → front_of which ++ (decimal line ++ (codes ":" ++ (decimal column ++ (codes " " ++ (kind ++ (decimal at ++ codes "\n")))))) ≡ fault_line (Rules which line column why)
counted_rules_line which line column why kind at h =
    ap (λ end. front_of which ++ (decimal line ++ (codes ":" ++ (decimal column ++ (codes " " ++ end)))))
    (sym (append_assoc kind (decimal at) (codes "\n")) ∙ ap (λ text. text ++ codes "\n") (sym h))
    ∙ rules_line which line column why

pub plain_rules_pieces : (which : RulesFile) (f l k kind : List ℕ) (line column : ℕ) (why : RulesCause) → f ≡ front_of which → l ≡ decimal line → k ≡ decimal column → IsCauseText why kind None
    → f ++ (l ++ (codes ":" ++ (k ++ (codes " " ++ (kind ++ codes "\n"))))) ≡ fault_line (Rules which line column why)
plain_rules_pieces which f l k kind line column why hf hl hk h =
    ap (λ x. x ++ (l ++ (codes ":" ++ (k ++ (codes " " ++ (kind ++ codes "\n")))))) hf
    ∙ ap (λ x. front_of which ++ (x ++ (codes ":" ++ (k ++ (codes " " ++ (kind ++ codes "\n")))))) hl
    ∙ ap (λ x. front_of which ++ (decimal line ++ (codes ":" ++ (x ++ (codes " " ++ (kind ++ codes "\n")))))) hk
    ∙ plain_rules_line which line column why kind h

pub counted_rules_pieces : (which : RulesFile) (f l k kind a : List ℕ) (line column at : ℕ) (why : RulesCause) → f ≡ front_of which → l ≡ decimal line → k ≡ decimal column → a ≡ decimal at
    → IsCauseText why kind (Some at) → f ++ (l ++ (codes ":" ++ (k ++ (codes " " ++ (kind ++ (a ++ codes "\n")))))) ≡ fault_line (Rules which line column why)
counted_rules_pieces which f l k kind a line column at why hf hl hk ha h =
    ap (λ x. x ++ (l ++ (codes ":" ++ (k ++ (codes " " ++ (kind ++ (a ++ codes "\n"))))))) hf
    ∙ ap (λ x. front_of which ++ (x ++ (codes ":" ++ (k ++ (codes " " ++ (kind ++ (a ++ codes "\n"))))))) hl
    ∙ ap (λ x. front_of which ++ (decimal line ++ (codes ":" ++ (x ++ (codes " " ++ (kind ++ (a ++ codes "\n"))))))) hk
    ∙ ap (λ x. front_of which ++ (decimal line ++ (codes ":" ++ (decimal column ++ (codes " " ++ (kind ++ (x ++ codes "\n"))))))) ha
    ∙ counted_rules_line which line column why kind at h

-- The two laws between what is read and what is spelled, at an answer.
use Rattle.std.proofs.Common.{ℕ, List, Result, Ok, Err, IfOk, subst}
use Rattle.ps_yaml.specs.declared.nodes.Node.{Node}
use Rattle.ps_yaml.specs.declared.faults.YamlFault.{YamlFault}
use Rattle.ps_yaml.specs.Faults.{Reads}
use Rattle.ps_yaml.specs.Trees.{document_of}
use Rattle.ps_yaml.specs.Grammar.{Spells}
use Rattle.ps_yaml.proofs.FoundMaps.{found_document}
use Rattle.ps_yaml.proofs.Only.{only_document}

pub found : (result : Result Node YamlFault) (bytes : List ℕ) → Reads (λ (n : Node). n) result (document_of bytes) → IfOk result (λ (node : Node). Spells bytes node)
found (Ok node) bytes h = found_document bytes node h
found (Err fault) bytes h = tt

pub only : (result : Result Node YamlFault) (bytes : List ℕ) (node : Node) → Reads (λ (n : Node). n) result (document_of bytes) → Spells bytes node → Reads (λ (n : Node). n) result (Ok node)
only result bytes node h spelled = subst (λ (meant : Result Node YamlFault). Reads (λ (n : Node). n) result meant) (only_document bytes node spelled) h

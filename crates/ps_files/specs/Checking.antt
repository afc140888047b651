-- What `check` prints of rules.
use Rattle.std.specs.Prelude.{ℕ, List, ◌++◌, flat_map, length, codes, decimal}
use Rattle.ps_definitions.specs.declared.definitions.Definition.{Definition}
use Rattle.ps_definitions.specs.declared.warnings.Warning.{Warning}
use Rattle.ps_definitions.specs.declared.warnings.WarningKind.{WarningKind}
use Rattle.ps_definitions.specs.declared.warnings.WarningKind.TheVariants.{ClientParameters, NoData}
use Rattle.ps_definitions.specs.RuleSets.{RuleSet}

-- a name, and numbers of parameter queries and of data queries
abbrev pub counted_line : (name : List ℕ) (parameters queries : ℕ) → List ℕ
counted_line name parameters queries =
    name ++ (codes " parameters " ++ (decimal parameters ++ (codes " queries " ++ (decimal queries ++ codes "\n"))))

-- a definition, with how many parameter queries and data queries it has
unfoldable pub definition_line : Definition → List ℕ
definition_line definition = codes "definition " ++ counted_line definition.name (length definition.parameters) (length definition.queries)

abbrev pub kind_text : WarningKind → List ℕ
kind_text ClientParameters = codes "client-parameters"
kind_text NoData = codes "no-data"

unfoldable pub warning_line : Warning → List ℕ
warning_line warning =
    codes "warning " ++ (decimal warning.line
    ++ (codes ":" ++ (decimal warning.column
    ++ (codes " " ++ (kind_text warning.kind ++ codes "\n")))))

-- each definition, and then each warning
abbrev pub check_text : RuleSet → List ℕ
check_text rules = flat_map definition_line rules.definitions ++ flat_map warning_line rules.warnings

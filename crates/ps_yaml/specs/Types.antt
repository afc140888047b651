-- The types of this crate, for the definitions of the crates above.
pub use Rattle.ps_yaml.specs.declared.faults.YamlFault.{YamlFault}
pub use Rattle.ps_yaml.specs.declared.faults.YamlFault.TheVariants.{BadIndent, BadScalar, DuplicateKey, Unsupported, Memory}
pub use Rattle.ps_yaml.specs.declared.nodes.Node.{Node}
pub use Rattle.ps_yaml.specs.declared.nodes.Node.TheVariants.{Scalar, Map, List}
pub use Rattle.ps_yaml.specs.declared.nodes.Pair.{Pair}

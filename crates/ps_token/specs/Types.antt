-- The types of this crate, for the definitions of the crates above.
pub use Rattle.ps_token.specs.declared.claim_sets.Claims.{Claims}
pub use Rattle.ps_token.specs.declared.key_lists.Key.{Key}
pub use Rattle.ps_token.specs.declared.faults.KeysFault.{KeysFault}
pub use Rattle.ps_token.specs.declared.faults.SignFault.{SignFault}
pub use Rattle.ps_token.specs.declared.faults.TokenFault.{TokenFault}

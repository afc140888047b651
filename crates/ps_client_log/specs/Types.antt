-- The types of this crate, for the definitions of the crates above.
pub use Rattle.ps_client_log.specs.declared.states.State.{State}
pub use Rattle.ps_client_log.specs.declared.states.BucketState.{BucketState}
pub use Rattle.ps_client_log.specs.declared.states.Held.{Held}
pub use Rattle.ps_client_log.specs.declared.states.Target.{Target}
pub use Rattle.ps_client_log.specs.declared.states.Target.TheVariants.{Free, Pending, Number}
pub use Rattle.ps_client_log.specs.declared.edits.Edit.{Edit}
pub use Rattle.ps_client_log.specs.declared.edits.Edit.TheVariants.{Take, Delete, Push, Pop, Aim, Show}
pub use Rattle.ps_client_log.specs.declared.faults.KeepFault.{KeepFault}

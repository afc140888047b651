-- The types of this crate, for the definitions of the crates above.
pub use Rattle.ps_session.specs.declared.requests.StreamRequest.{StreamRequest}
pub use Rattle.ps_session.specs.declared.actions.Action.{Action}
pub use Rattle.ps_session.specs.declared.actions.Action.TheVariants.{Take, Read, Complete, Wait}
pub use Rattle.ps_session.specs.declared.phases.Phase.{Phase}
pub use Rattle.ps_session.specs.declared.phases.Phase.TheVariants.{Start, Download, Void, Done}

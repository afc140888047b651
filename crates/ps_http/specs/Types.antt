-- The types of this crate, for the definitions of the crates above.
pub use Rattle.ps_http.specs.declared.heads.Head.{Head}
pub use Rattle.ps_http.specs.declared.heads.HeadFault.{HeadFault}
pub use Rattle.ps_http.specs.declared.heads.HeadFault.TheVariants.{BadHead, HeadTooLong}
pub use Rattle.ps_http.specs.declared.bodies.BodyFault.{BodyFault}
pub use Rattle.ps_http.specs.declared.bodies.BodyFault.TheVariants.{LengthRequired, BodyTooLong}

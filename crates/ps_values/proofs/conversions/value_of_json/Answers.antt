use Rattle.std.proofs.Common.{◌≡◌, inl, inr, sym, ap, ◌∙◌, Some, None, Err, rules}
use Rattle.serde_json.specs.Data.{Data}
use Rattle.serde_json.specs.View.{view}
use Rattle.serde_json.proofs.Views.{view-Array, view-Object}
use Rattle.ps_values.specs.declared.conversions.ValueFault.{ValueFault}
use Rattle.ps_values.specs.declared.conversions.ValueFault.TheVariants.{NotWhole, TooBig, Memory}
use Rattle.ps_values.specs.ValueFaults.{first_fault as first_fault_of, numbers_of, IsValueOf}
use Rattle.ps_values.proofs.Faults.{text_of_array, text_of_object, numbers_want_nothing}
use Rattle.ps_values.proofs.conversions.value_of_json.Goals as goal

faulted : (d : Data) (fault : ValueFault) → first_fault_of (numbers_of d) ≡ Some fault → IsValueOf d (Err fault)
faulted d NotWhole h = h
faulted d TooBig h = h
faulted d Memory h = absurd (numbers_want_nothing (numbers_of d) h)

pub returns-in-Some : goal.returns-in-Some
returns-in-Some c = faulted (view c.args.json.now) c.in-Some.fault (sym c.first_fault.ensures ∙ c.in-Some.is)

pub returns-in_ok-text_of_json-in-Array : goal.returns-in_ok-text_of_json-in-Array
returns-in_ok-text_of_json-in-Array c =
    let json = c.args.json.now in
    let none : first_fault_of (numbers_of (view json)) ≡ None = search rules in
    let text = c.in_ok-text_of_json-in-Array in (
      none,
      elim c.in-Array.is [
        | inl array ↦ text_of_array (view json) _ text.field-0 (ap view array.1 ∙ view-Array array.0) none text.ensures
        | inr object ↦ text_of_object (view json) _ text.field-0 (ap view object.1 ∙ view-Object object.0) none text.ensures
      ],
    )

use Rattle.mz_properties.proofs.PropertyLemmas.{told_property, told_condition}
use Rattle.mz_properties.proofs.properties.take_further.Goals as goal

pub returns-in-Property : goal.returns-in-Property
returns-in-Property g c = told_property _ _ _ _ _ _ _ _ _ _ _ c.in-Property.is c.take_property.ensures

pub returns-in_ok-refusal-in-Condition : goal.returns-in_ok-refusal-in-Condition
returns-in_ok-refusal-in-Condition g c = told_condition _ _ _ _ _ _ _ _ _ _ _ c.in_ok-refusal-in-Condition.refusal c.in-Condition.is c.in_ok-refusal-in-Condition.ensures

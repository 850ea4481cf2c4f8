-- The conditions that an item owes, and those that are still to be written.
use Rattle.std.specs.Prelude.{ℕ, Bool, true, false, not, nat_eq, is_some, if◌then◌else◌, List, [], ◌∷◌, ◌++◌, flat_map, Option, Some, None}
use Rattle.std.specs.List.{filter, list_any}
use Rattle.mz_core.specs.Parts.{conjunction}
use Rattle.mz_core.specs.Statement.{Statement}
use Rattle.mz_core.specs.declared.item.Item.{Item}
use Rattle.mz_items.specs.Conditions.{condition_number}
use Rattle.mz_items.specs.Items.{thesis_of, conditions}
use Rattle.mz_items.specs.declared.condition.Condition.{Condition}
use Rattle.mz_items.specs.declared.condition.Condition.TheVariants as condition
use Rattle.mz_tree_part.specs.declared.words.ConditionWord.{ConditionWord}
use Rattle.mz_tree_part.specs.declared.words.ConditionWord.TheVariants as word
use Rattle.mz_owed.specs.declared.owed.Owed.{Owed}

-- the condition that a word names; `correctness` names none
abbrev pub named : ConditionWord → Option Condition
named word.Existence = Some condition.Existence
named word.Uniqueness = Some condition.Uniqueness
named word.Coherence = Some condition.Coherence
named word.Compatibility = Some condition.Compatibility
named word.Consistency = Some condition.Consistency
named word.Correctness = None
named word.Reducibility = Some condition.Reducibility

-- its number
abbrev pub number_of : Option Condition → ℕ
number_of None = 6
number_of (Some c) = condition_number c

-- the conditions that an item owes, in the order of their numbers
abbrev pub is_owed : Item → Condition → Bool
is_owed x c = is_some (thesis_of x c)

abbrev pub owed_by : Item → List Condition
owed_by x = filter (is_owed x) conditions

-- at first none is written
abbrev pub at_first : Item → Owed
at_first x = record { unwritten = owed_by x; corrected = false }

abbrev pub is_condition : Condition → Condition → Bool
is_condition c d = nat_eq (condition_number c) (condition_number d)

abbrev pub is_other : Condition → Condition → Bool
is_other c d = not (is_condition c d)

-- the conditions that a word covers: the one that it names, where that is owed and not written; `correctness`, where it wasn't written, all
-- that are not written
abbrev pub all_or_none : Bool → List Condition → List Condition
all_or_none corrected cs = if corrected then [] else cs

abbrev pub covered_by : Owed → Option Condition → List Condition
covered_by o None = all_or_none o.corrected o.unwritten
covered_by o (Some c) = if list_any (is_condition c) o.unwritten then c ∷ [] else []

abbrev pub covered : Owed → ConditionWord → List Condition
covered o w = covered_by o (named w)

-- behind the word: what `correctness` covered may still be written
abbrev pub written_by : Owed → Option Condition → Owed
written_by o None = record { unwritten = o.unwritten; corrected = true }
written_by o (Some c) = record { unwritten = filter (is_other c) o.unwritten; corrected = o.corrected }

abbrev pub written : Owed → ConditionWord → Owed
written o w = written_by o (named w)

-- the first that is missing: the least one that isn't written, where `correctness` isn't either
abbrev pub first_of : List Condition → Option Condition
first_of [] = None
first_of (c ∷ cs) = Some c

abbrev pub missing : Owed → Option Condition
missing o = first_of (all_or_none o.corrected o.unwritten)

-- what conditions state together, under the item's loci
abbrev pub listed : Option Statement → List Statement
listed None = []
listed (Some s) = s ∷ []

abbrev pub thesis_list : Item → Condition → List Statement
thesis_list x c = listed (thesis_of x c)

abbrev pub joint_thesis : Item → List Condition → Statement
joint_thesis x cs = conjunction (flat_map (thesis_list x) cs)

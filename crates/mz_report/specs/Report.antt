-- The text of a report.
use Rattle.std.specs.Prelude.{ℕ, Bool, true, false, List, [], ◌∷◌, ◌++◌, Option, Some, None, length, codes, count_by, map, find, ◌==◌}
use Rattle.std.specs.List.{flat_map, concat}
use Rattle.std.specs.Fmt.{decimal}
use Rattle.mz_base.specs.Name.{text_of}
use Rattle.mz_base.specs.RuleCode.{code_row}
use Rattle.mz_base.specs.declared.name.Name.{Name}
use Rattle.mz_core.specs.declared.fault.Fault.{Fault}
use Rattle.mz_core.specs.declared.verdict.Counts.{Counts}
use Rattle.mz_core.specs.declared.verdict.Entry.{Entry}
use Rattle.mz_core.specs.declared.verdict.Verdict.{Verdict}
use Rattle.mz_core.specs.declared.verdict.Verdict.TheVariants.{Accepted, Rejected, Blocked, Cyclic, Missing}
use Rattle.mz_corpus.specs.declared.ordering.Ordering.{Ordering}

-- the number after a space, for the codes that have one
abbrev pub number_text : Bool → Option ℕ → List ℕ
number_text false number = []
number_text true None = []
number_text true (Some n) = codes " " ++ decimal n

-- `  LINE:COLUMN CODE `
abbrev pub head_text : Fault → List ℕ
head_text f =
    concat (codes "  " ∷ decimal f.place.line ∷ codes ":" ∷ decimal f.place.column ∷ codes " " ∷ decimal (code_row f.code).code ∷ codes " " ∷ [])

-- `  LINE:COLUMN CODE TEXT NUMBER`
abbrev pub fault_text : Fault → List ℕ
fault_text f = head_text f ++ (code_row f.code).text ++ number_text (code_row f.code).has_number f.number ++ codes "\n"

-- ` accepted T theorems, D definitions, R registrations, S schemes`
abbrev pub accepted_text : Counts → List ℕ
accepted_text c =
    concat (codes " accepted " ∷ decimal c.theorems ∷ codes " theorems, " ∷ decimal c.definitions ∷ codes " definitions, "
    ∷ decimal c.registrations ∷ codes " registrations, " ∷ decimal c.schemes ∷ codes " schemes" ∷ [])

-- ` rejected K faults`
abbrev pub rejected_text : List Fault → List ℕ
rejected_text fs = concat (codes " rejected " ∷ decimal (length fs) ∷ codes " faults" ∷ [])

-- what stands behind the name
abbrev pub verdict_text : Entry → Verdict → List ℕ
verdict_text e Accepted = accepted_text e.counts
verdict_text e Rejected = rejected_text e.faults
verdict_text e (Blocked other) = codes " blocked by " ++ text_of other.number
verdict_text e Cyclic = codes " cyclic"
verdict_text e Missing = codes " missing"

-- the lines of faults, which only a rejected article has
abbrev pub faults_text : Entry → Verdict → List ℕ
faults_text e Accepted = []
faults_text e Rejected = flat_map fault_text e.faults
faults_text e (Blocked other) = []
faults_text e Cyclic = []
faults_text e Missing = []

abbrev pub settled_text : Entry → Option Verdict → List ℕ
settled_text e None = []
settled_text e (Some v) = text_of e.name.number ++ verdict_text e v ++ codes "\n" ++ faults_text e v

-- an article's line, and below it those of its faults; nothing while it isn't settled
abbrev pub entry_text : Entry → List ℕ
entry_text e = settled_text e e.verdict

abbrev pub is_accepted : Option Verdict → Bool
is_accepted (Some Accepted) = true
is_accepted _ = false

abbrev pub is_rejected : Option Verdict → Bool
is_rejected (Some Rejected) = true
is_rejected _ = false

abbrev pub is_blocked : Option Verdict → Bool
is_blocked (Some (Blocked other)) = true
is_blocked _ = false

abbrev pub is_cyclic : Option Verdict → Bool
is_cyclic (Some Cyclic) = true
is_cyclic _ = false

abbrev pub is_missing : Option Verdict → Bool
is_missing (Some Missing) = true
is_missing _ = false

-- how many of the verdicts are such
abbrev pub count_of : (Option Verdict → Bool) → List (Option Verdict) → ℕ
count_of is_such vs = count_by is_such vs

-- `total A accepted, R rejected, B blocked, C cyclic, M missing`
abbrev pub totals_line : ℕ → ℕ → ℕ → ℕ → ℕ → List ℕ
totals_line accepted rejected blocked cyclic missing =
    concat (codes "total " ∷ decimal accepted ∷ codes " accepted, " ∷ decimal rejected ∷ codes " rejected, "
    ∷ decimal blocked ∷ codes " blocked, " ∷ decimal cyclic ∷ codes " cyclic, " ∷ decimal missing ∷ codes " missing\n" ∷ [])

abbrev pub totals_text : List (Option Verdict) → List ℕ
totals_text vs = totals_line (count_of is_accepted vs) (count_of is_rejected vs) (count_of is_blocked vs) (count_of is_cyclic vs) (count_of is_missing vs)

-- whether the entry is that of the article of this name
abbrev pub is_entry_of : Name → Entry → Bool
is_entry_of n e = n.number == e.name.number

-- the entry of the article of this name
abbrev pub entry_of : List Entry → Name → Option Entry
entry_of es n = find (is_entry_of n) es

abbrev pub text_of_entry : Option Entry → List ℕ
text_of_entry None = []
text_of_entry (Some e) = entry_text e

abbrev pub verdict_of_entry : Option Entry → Option Verdict
verdict_of_entry None = None
verdict_of_entry (Some e) = e.verdict

-- the lines of the article of this name
abbrev pub named_text : List Entry → Name → List ℕ
named_text es n = text_of_entry (entry_of es n)

-- the verdict on the article of this name
abbrev pub verdict_of : List Entry → Name → Option Verdict
verdict_of es n = verdict_of_entry (entry_of es n)

-- the names in the order, and then those of the rest
abbrev pub names_in : Ordering → List Name
names_in o = o.order ++ o.rest

-- the last line of a report
abbrev pub last_line : Ordering → List Entry → List ℕ
last_line o es = totals_text (map (verdict_of es) (names_in o))

-- the articles in the order, and then those of the rest, and the totals
abbrev pub report_text : Ordering → List Entry → List ℕ
report_text o es = flat_map (named_text es) (names_in o) ++ last_line o es

-- What the code of terms tells.
use Rattle.std.proofs.Common.{◌≡◌, ◌≤◌, ◌<◌, ◌-◌, ◌+◌, add-one, drop, ℕ, zero, suc, Bool, true, false, List, [], ◌∷◌, ◌++◌, length, map, reverse, refl, sym, ap, ◌∙◌, subst, arith, get_or, Option, Some, None, Vec, Box}
use Rattle.std.specs.declared.alloc.Global.{Global}
use Rattle.std.specs.Prelude.{slice_get, Result, Ok, Err}
use Rattle.mz_base.specs.declared.place.Place.{Place}
use Rattle.mz_logic.specs.Term.{Term}
use Rattle.mz_logic.specs.declared.kind.Kind.TheVariants as kind
use Rattle.mz_context.specs.declared.context.Context.{Context}
use Rattle.mz_environment.specs.declared.environment.Environment.{Environment}
use Rattle.mz_names.specs.declared.refusal.Refusal.{Refusal}
use Rattle.mz_names.specs.declared.refusal.Refusal.TheVariants.{NoNotation}
use Rattle.mz_choice.specs.declared.choice.Applied.{Applied}
use Rattle.mz_choice.specs.declared.choice.Wanted.TheVariants.{Anything}
use Rattle.mz_fits.proofs.FitLemmas.{empty}
use Rattle.mz_grouping.specs.Grouping.{Grouped, has_neighbours}
use Rattle.mz_grouping.specs.declared.grouping.Part.{Part}
use Rattle.mz_grouping.specs.declared.grouping.Step.{Step}
use Rattle.mz_grouping.specs.declared.grouping.Step.TheVariants.{Take, Apply}
use Rattle.mz_tree.specs.Trees.{PieceData, BaseData, RunTerm, FunctorPiece, OperandPiece, pieces_of, prefixs_of}
use Rattle.mz_tree.specs.Views.{term_of, terms_of, piece_of, prefix_of, base_of, operand_of, next_term_of}
use Rattle.mz_tree.specs.Places.{first_place}
use Rattle.mz_tree.specs.Spell.{spell_term, spell_piece}
use Rattle.mz_tree.specs.declared.word.Word.{Word}
use Rattle.mz_tree.specs.declared.chain.Chain.{Chain}
use Rattle.mz_tree.specs.declared.chain.Next.{Next}
use Rattle.mz_tree.specs.declared.nodes.BaseNode.{BaseNode}
use Rattle.mz_tree.specs.declared.nodes.BaseNode.TheVariants as bases
use Rattle.mz_tree.specs.declared.nodes.OperandNode.{OperandNode}
use Rattle.mz_tree.specs.declared.nodes.PieceNode.{PieceNode}
use Rattle.mz_tree.specs.declared.nodes.PieceNode.TheVariants as pieces
use Rattle.mz_tree.specs.declared.nodes.TermNode.{TermNode}
use Rattle.mz_tree.specs.declared.nodes.TypeNode.{TypeNode}
use Rattle.mz_tree.specs.declared.nodes.FormulaNode.{FormulaNode}
use Rattle.mz_tree.specs.declared.nodes.AdjectiveNode.{AdjectiveNode}
use Rattle.mz_tree.proofs.Views.{term_of-is, operand_of-is, piece_of-functor, piece_of-operand, base_of-identifier, base_of-subject, base_of-argument, base_of-group, base_of-call, base_of-call_with, base_of-selector, base_of-aggregate, base_of-brackets, base_of-braces, base_of-squares, base_of-set_of, base_of-choice, base_of-choice_structure}
use Rattle.mz_applied.specs.Application.{application}
use Rattle.mz_applied.specs.Meant.{as_term}
use Rattle.mz_applied.specs.Reading.{ReadsAs}
use Rattle.mz_terms.specs.Parts.{parts_of}
use Rattle.mz_terms.specs.Values.{top_if, rest_if, terms_in, first_in, applied_to, put_terms, put_term, one_of}
use Rattle.mz_terms.specs.Bases.{Closes, Prefixed}
use Rattle.mz_terms.specs.Terms as te
use Rattle.mz_terms.specs.Terms.{ReadsTerm, Runs, RunsStep, TakesPiece, AppliesPiece, ReadsOperand, ReadsBase, ReadsArguments, ReadsAll, ReadsEach, arguments_of, listed_term}
use Rattle.mz_terms.specs.declared.values.RunValue.{RunValue}

-- a symbol of a run
pub told_symbol : (e : Environment) (c : Context) (left right : Bool) (w : Word) (vs between rest : List RunValue) (behind before : Option RunValue) (at : Place) (ls rs : List Term) (a : Applied) (t : Result Term Refusal) (o : Result (List RunValue) Refusal) →
    behind ≡ top_if right vs → between ≡ rest_if right vs → before ≡ top_if left between → rest ≡ rest_if left between → at ≡ first_in w.place before → ls ≡ terms_in before → rs ≡ terms_in behind → a ≡ application kind.Functor w.spelling ls rs →
    ReadsAs e c Anything w.place (as_term w.place at) a t → o ≡ put_term at rest t → (first : Place) (priority : ℕ) → AppliesPiece e c first left right (FunctorPiece w priority) vs o
told_symbol e c left right w vs between rest behind before at ls rs a t o ebh ebt ebf er ea els ers eap h eo first priority =
    let one : before ≡ top_if left (rest_if right vs) = ebf ∙ ap (top_if left) ebt in
    let two : rest ≡ rest_if left (rest_if right vs) = er ∙ ap (rest_if left) ebt in
    let three : at ≡ first_in w.place (top_if left (rest_if right vs)) = ea ∙ ap (first_in w.place) one in
    let four : a ≡ applied_to w (top_if left (rest_if right vs)) (top_if right vs) = eap ∙ (ap (λ x. application kind.Functor w.spelling x rs) els ∙ ap (application kind.Functor w.spelling (terms_in before)) ers) ∙ (ap (λ x. applied_to w x behind) one ∙ ap (applied_to w (top_if left (rest_if right vs))) ebh) in
    let P : Result (List RunValue) Refusal → Type 0 = λ x. AppliesPiece e c first left right (FunctorPiece w priority) vs x in
    let Q : Applied → Type 0 = λ x. ReadsAs e c Anything w.place (as_term w.place at) x t in
    let R : Place → Type 0 = λ x. ReadsAs e c Anything w.place (as_term w.place x) (applied_to w (top_if left (rest_if right vs)) (top_if right vs)) t in
    subst P (sym (eo ∙ (ap (λ x. put_term x rest t) three ∙ ap (λ x. put_term (first_in w.place (top_if left (rest_if right vs))) x t) two)))
    (te.applies_symbol w priority vs t (subst R three (subst Q four h)))

pub told_applies_symbol : (e : Environment) (c : Context) (first : Place) (left right : Bool) (node : PieceNode) (w : Word) (n : ℕ) (vs : List RunValue) (o : Result (List RunValue) Refusal) → node ≡ pieces.Functor w n → ((at : Place) (priority : ℕ) → AppliesPiece e c at left right (FunctorPiece w priority) vs o) → AppliesPiece e c first left right (piece_of node) vs o
told_applies_symbol e c first left right node w n vs o en h = subst (λ x. AppliesPiece e c first left right x vs o) (sym (ap piece_of en ∙ piece_of-functor w n)) (h first n)

pub told_applies_operand : (e : Environment) (c : Context) (first : Place) (left right : Bool) (node : PieceNode) (a : OperandNode) (vs : List RunValue) → node ≡ pieces.Operand a → AppliesPiece e c first left right (piece_of node) vs (Err (NoNotation first))
told_applies_operand e c first left right node a vs en =
    subst (λ x. AppliesPiece e c first left right x vs (Err (NoNotation first))) (sym (ap piece_of en ∙ piece_of-operand a)) (te.applies_operand (operand_of a).prefixes (operand_of a).base vs)

pub ruleset apply_rules = (told_applies_symbol, told_applies_operand)

pub term_as : (e : Environment) (c : Context) (least : ℕ) (t : TermNode) (o : Result Term Refusal) → ReadsTerm e c least (RunTerm (piece_of t.first) (pieces_of (map piece_of t.more.items))) o → ReadsTerm e c least (term_of t) o
term_as e c least t o h = subst (λ x. ReadsTerm e c least x o) (sym (term_of-is t)) h

first_as : (t : TermNode) (first : Place) → first_place (spell_term (term_of t)) ≡ Some first → first_place (spell_term (RunTerm (piece_of t.first) (pieces_of (map piece_of t.more.items)))) ≡ Some first
first_as t first h = sym (ap (λ x. first_place (spell_term x)) (term_of-is t)) ∙ h

pub told_neighbours : (e : Environment) (c : Context) (least : ℕ) (t : TermNode) (first : Place) (parts : List Part) (b : Bool) → first_place (spell_term (term_of t)) ≡ Some first → parts ≡ parts_of e (piece_of t.first ∷ map piece_of t.more.items) → b ≡ has_neighbours parts → b ≡ true → ReadsTerm e c least (term_of t) (Err (NoNotation first))
told_neighbours e c least t first parts b ef ep en eb =
    term_as e c least t (Err (NoNotation first)) (te.neighbours (piece_of t.first) (map piece_of t.more.items) first (first_as t first ef) (sym (ap has_neighbours ep) ∙ (sym en ∙ eb)))

pub told_run_refused : (e : Environment) (c : Context) (least : ℕ) (t : TermNode) (first : Place) (parts : List Part) (b : Bool) (steps : List Step) (o : Result (List RunValue) Refusal) (r : Refusal) → first_place (spell_term (term_of t)) ≡ Some first → parts ≡ parts_of e (piece_of t.first ∷ map piece_of t.more.items) → b ≡ has_neighbours parts → b ≡ false → Grouped 0 parts steps → Runs e c least first (piece_of t.first ∷ map piece_of t.more.items) steps [] o → o ≡ Err r → ReadsTerm e c least (term_of t) (Err r)
told_run_refused e c least t first parts b steps o r ef ep en eb g h eo =
    let P : Result (List RunValue) Refusal → Type 0 = λ x. Runs e c least first (piece_of t.first ∷ map piece_of t.more.items) steps [] x in
    term_as e c least t (Err r) (te.run_refused (piece_of t.first) (map piece_of t.more.items) first steps r (first_as t first ef) (sym (ap has_neighbours ep) ∙ (sym en ∙ eb)) (subst (λ x. Grouped 0 x steps) ep g) (subst P eo h))

pub told_run_read : (e : Environment) (c : Context) (least : ℕ) (t : TermNode) (first : Place) (parts : List Part) (b : Bool) (steps : List Step) (o : Result (List RunValue) Refusal) (vs : List RunValue) (top : Option RunValue) (ts : List Term) (u : Result Term Refusal) → first_place (spell_term (term_of t)) ≡ Some first → parts ≡ parts_of e (piece_of t.first ∷ map piece_of t.more.items) → b ≡ has_neighbours parts → b ≡ false → Grouped 0 parts steps → Runs e c least first (piece_of t.first ∷ map piece_of t.more.items) steps [] o → o ≡ Ok vs → top ≡ top_if true vs → ts ≡ terms_in top → u ≡ one_of first ts → ReadsTerm e c least (term_of t) u
told_run_read e c least t first parts b steps o vs top ts u ef ep en eb g h eo et es eu =
    let P : Result (List RunValue) Refusal → Type 0 = λ x. Runs e c least first (piece_of t.first ∷ map piece_of t.more.items) steps [] x in
    let Q : Result Term Refusal → Type 0 = λ x. ReadsTerm e c least (term_of t) x in
    subst Q (sym (eu ∙ ap (one_of first) (es ∙ ap terms_in et)))
    (term_as e c least t (one_of first (terms_in (top_if true vs))) (te.run_read (piece_of t.first) (map piece_of t.more.items) first steps vs (first_as t first ef) (sym (ap has_neighbours ep) ∙ (sym en ∙ eb)) (subst (λ x. Grouped 0 x steps) ep g) (subst P eo h)))

pub ruleset term_rules = (told_neighbours, told_run_refused, told_run_read)

-- what the rest of the steps gives, all give
abbrev pub Gives : Environment → Context → ℕ → Place → List PieceData → List Step → List RunValue → List Step → Type 0
Gives e c least first run rest vs steps = (o : Result (List RunValue) Refusal) → Runs e c least first run rest vs o → Runs e c least first run steps [] o

pub told_no_step : (e : Environment) (c : Context) (least : ℕ) (first : Place) (run : List PieceData) (rest steps : List Step) (vs : List RunValue) → length rest ≡ 0 → Gives e c least first run rest vs steps → Runs e c least first run steps [] (Ok vs)
told_no_step e c least first run rest steps vs er g = g (Ok vs) (subst (λ xs. Runs e c least first run xs vs (Ok vs)) (sym (empty rest er)) (te.no_step first run vs))

pub told_stops : (e : Environment) (c : Context) (least : ℕ) (first : Place) (run : List PieceData) (rest others steps : List Step) (s : Step) (vs : List RunValue) (o : Result (List RunValue) Refusal) (r : Refusal) → rest ≡ s ∷ others → RunsStep e c least first run s vs o → o ≡ Err r → Gives e c least first run rest vs steps → Runs e c least first run steps [] (Err r)
told_stops e c least first run rest others steps s vs o r er h eo g =
    let P : Result (List RunValue) Refusal → Type 0 = λ x. RunsStep e c least first run s vs x in
    g (Err r) (subst (λ xs. Runs e c least first run xs vs (Err r)) (sym er) (te.stops first run s others vs r (subst P eo h)))

pub told_goes_on : (e : Environment) (c : Context) (least : ℕ) (first : Place) (run : List PieceData) (rest others steps : List Step) (s : Step) (vs us : List RunValue) (o : Result (List RunValue) Refusal) → rest ≡ s ∷ others → RunsStep e c least first run s vs o → o ≡ Ok us → Gives e c least first run rest vs steps → Gives e c least first run others us steps
told_goes_on e c least first run rest others steps s vs us o er h eo g q k =
    let P : Result (List RunValue) Refusal → Type 0 = λ x. RunsStep e c least first run s vs x in
    g q (subst (λ xs. Runs e c least first run xs vs q) (sym er) (te.goes_on first run s others vs us q (subst P eo h) k))

pub ruleset run_rules = (told_no_step, told_stops, told_goes_on)

-- the piece at a place of the run
slice_get-got : (xs : List PieceNode) (k : ℕ) (x : PieceNode) → k < length xs → x ≡ get_or xs k x → slice_get (map piece_of xs) k ≡ Some (piece_of x)
slice_get-got [] k x lt at = absurd (omega (arith, lt))
slice_get-got (y ∷ ys) zero x lt at = ap (λ z. Some (piece_of z)) (sym at)
slice_get-got (y ∷ ys) (suc k) x lt at = slice_get-got ys k x (omega (arith, lt)) at

slice_get-later : (p : PieceData) (ps : List PieceData) (k : ℕ) (o : Option PieceData) → (k ≡ 0 → ⊥) → slice_get ps (k - 1) ≡ o → slice_get (p ∷ ps) k ≡ o
slice_get-later p ps zero o h e = absurd (h refl)
slice_get-later p ps (suc k) o h e = let less : suc k - 1 ≡ k = omega arith in subst (λ n. slice_get ps n ≡ o) less e

slice_get-past : (xs : List PieceNode) (k : ℕ) → length xs ≤ k → slice_get (map piece_of xs) k ≡ None
slice_get-past [] k h = refl
slice_get-past (x ∷ xs) zero h = absurd (omega (arith, h))
slice_get-past (x ∷ xs) (suc k) h = slice_get-past xs k (omega (arith, h))

slice_get-zeroth : (p : PieceData) (ps : List PieceData) (k : ℕ) → k ≡ 0 → slice_get (p ∷ ps) k ≡ Some p
slice_get-zeroth p ps zero h = refl
slice_get-zeroth p ps (suc k) h = absurd (omega (arith, h))

step_as : (e : Environment) (c : Context) (least : ℕ) (first : Place) (run : List PieceData) (s t : Step) (vs : List RunValue) (o : Result (List RunValue) Refusal) → s ≡ t → RunsStep e c least first run t vs o → RunsStep e c least first run s vs o
step_as e c least first run s t vs o es h = subst (λ x. RunsStep e c least first run x vs o) (sym es) h

pub told_takes_first : (e : Environment) (c : Context) (least : ℕ) (first : Place) (p : PieceNode) (ps : List PieceNode) (s : Step) (k : ℕ) (vs : List RunValue) (o : Result (List RunValue) Refusal) → s ≡ Take k → k ≡ 0 → TakesPiece e c least first (piece_of p) vs o → RunsStep e c least first (piece_of p ∷ map piece_of ps) s vs o
told_takes_first e c least first p ps s k vs o es ek h = step_as e c least first _ s (Take k) vs o es (te.takes first _ k (piece_of p) vs o (slice_get-zeroth (piece_of p) (map piece_of ps) k ek) h)

pub told_takes_past : (e : Environment) (c : Context) (least : ℕ) (first : Place) (p : PieceNode) (ps : List PieceNode) (s : Step) (k : ℕ) (vs : List RunValue) → s ≡ Take k → (k ≡ 0 → ⊥) → length ps ≤ k - 1 → RunsStep e c least first (piece_of p ∷ map piece_of ps) s vs (Err (NoNotation first))
told_takes_past e c least first p ps s k vs es ek h =
    step_as e c least first _ s (Take k) vs (Err (NoNotation first)) es (te.takes_nothing first _ k vs (slice_get-later (piece_of p) (map piece_of ps) k None ek (slice_get-past ps (k - 1) h)))

pub told_takes_later : (e : Environment) (c : Context) (least : ℕ) (first : Place) (p x : PieceNode) (ps : List PieceNode) (s : Step) (k : ℕ) (vs : List RunValue) (o : Result (List RunValue) Refusal) → s ≡ Take k → (k ≡ 0 → ⊥) → k - 1 < length ps → x ≡ get_or ps (k - 1) x → TakesPiece e c least first (piece_of x) vs o → RunsStep e c least first (piece_of p ∷ map piece_of ps) s vs o
told_takes_later e c least first p x ps s k vs o es ek lt at h =
    step_as e c least first _ s (Take k) vs o es (te.takes first _ k (piece_of x) vs o (slice_get-later (piece_of p) (map piece_of ps) k (Some (piece_of x)) ek (slice_get-got ps (k - 1) x lt at)) h)

pub told_applies_first : (e : Environment) (c : Context) (least : ℕ) (first : Place) (p : PieceNode) (ps : List PieceNode) (s : Step) (k : ℕ) (left right : Bool) (vs : List RunValue) (o : Result (List RunValue) Refusal) → s ≡ Apply k left right → k ≡ 0 → AppliesPiece e c first left right (piece_of p) vs o → RunsStep e c least first (piece_of p ∷ map piece_of ps) s vs o
told_applies_first e c least first p ps s k left right vs o es ek h =
    step_as e c least first _ s (Apply k left right) vs o es (te.applies first _ k left right (piece_of p) vs o (slice_get-zeroth (piece_of p) (map piece_of ps) k ek) h)

pub told_applies_past : (e : Environment) (c : Context) (least : ℕ) (first : Place) (p : PieceNode) (ps : List PieceNode) (s : Step) (k : ℕ) (left right : Bool) (vs : List RunValue) → s ≡ Apply k left right → (k ≡ 0 → ⊥) → length ps ≤ k - 1 → RunsStep e c least first (piece_of p ∷ map piece_of ps) s vs (Err (NoNotation first))
told_applies_past e c least first p ps s k left right vs es ek h =
    step_as e c least first _ s (Apply k left right) vs (Err (NoNotation first)) es (te.applies_nothing first _ k left right vs (slice_get-later (piece_of p) (map piece_of ps) k None ek (slice_get-past ps (k - 1) h)))

pub told_applies_later : (e : Environment) (c : Context) (least : ℕ) (first : Place) (p x : PieceNode) (ps : List PieceNode) (s : Step) (k : ℕ) (left right : Bool) (vs : List RunValue) (o : Result (List RunValue) Refusal) → s ≡ Apply k left right → (k ≡ 0 → ⊥) → k - 1 < length ps → x ≡ get_or ps (k - 1) x → AppliesPiece e c first left right (piece_of x) vs o → RunsStep e c least first (piece_of p ∷ map piece_of ps) s vs o
told_applies_later e c least first p x ps s k left right vs o es ek lt at h =
    step_as e c least first _ s (Apply k left right) vs o es (te.applies first _ k left right (piece_of x) vs o (slice_get-later (piece_of p) (map piece_of ps) k (Some (piece_of x)) ek (slice_get-got ps (k - 1) x lt at)) h)

pub ruleset step_rules = (told_takes_first, told_takes_past, told_takes_later, told_applies_first, told_applies_past, told_applies_later)

pub told_takes_symbol : (e : Environment) (c : Context) (least : ℕ) (first : Place) (node : PieceNode) (w : Word) (n : ℕ) (vs : List RunValue) → node ≡ pieces.Functor w n → TakesPiece e c least first (piece_of node) vs (Err (NoNotation first))
told_takes_symbol e c least first node w n vs en = subst (λ x. TakesPiece e c least first x vs (Err (NoNotation first))) (sym (ap piece_of en ∙ piece_of-functor w n)) (te.takes_symbol first w n vs)

piece_of-as_operand : (a : OperandNode) → piece_of (pieces.Operand a) ≡ OperandPiece (prefixs_of (map prefix_of a.prefixes.items)) (base_of a.base.value)
piece_of-as_operand a = piece_of-operand a ∙ ap (λ x. OperandPiece x.prefixes x.base) (operand_of-is a)

pub told_takes_operand : (e : Environment) (c : Context) (least : ℕ) (first at : Place) (node : PieceNode) (a : OperandNode) (vs : List RunValue) (ts : Result (List Term) Refusal) (o : Result (List RunValue) Refusal) → node ≡ pieces.Operand a → first_place (spell_piece (piece_of node)) ≡ Some at → ReadsOperand e c least (map prefix_of a.prefixes.items) (base_of a.base.value) ts → o ≡ put_terms at vs ts → TakesPiece e c least first (piece_of node) vs o
told_takes_operand e c least first at node a vs ts o en ef h eo =
    let same : piece_of node ≡ OperandPiece (prefixs_of (map prefix_of a.prefixes.items)) (base_of a.base.value) = ap piece_of en ∙ piece_of-as_operand a in
    let P : Result (List RunValue) Refusal → Type 0 = λ x. TakesPiece e c least first (piece_of node) vs x in
    subst P (sym eo) (subst (λ x. TakesPiece e c least first x vs (put_terms at vs ts)) (sym same) (te.takes_operand first (map prefix_of a.prefixes.items) (base_of a.base.value) at vs ts (sym (ap (λ x. first_place (spell_piece x)) same) ∙ ef) h))

pub ruleset piece_rules = (told_takes_symbol, told_takes_operand)

pub told_base_refused : (e : Environment) (c : Context) (least : ℕ) (a : OperandNode) (o : Result (List Term) Refusal) (r : Refusal) → ReadsBase e c least (base_of a.base.value) o → o ≡ Err r → ReadsOperand e c least (map prefix_of a.prefixes.items) (base_of a.base.value) (Err r)
told_base_refused e c least a o r h eo =
    let P : Result (List Term) Refusal → Type 0 = λ x. ReadsBase e c least (base_of a.base.value) x in
    te.base_refused (map prefix_of a.prefixes.items) (base_of a.base.value) r (subst P eo h)

pub told_prefixed : (e : Environment) (c : Context) (least : ℕ) (a : OperandNode) (o p : Result (List Term) Refusal) (ts : List Term) → ReadsBase e c least (base_of a.base.value) o → o ≡ Ok ts → Prefixed e c (reverse (map prefix_of a.prefixes.items)) ts p → ReadsOperand e c least (map prefix_of a.prefixes.items) (base_of a.base.value) p
told_prefixed e c least a o p ts h eo k =
    let P : Result (List Term) Refusal → Type 0 = λ x. ReadsBase e c least (base_of a.base.value) x in
    te.prefixed (map prefix_of a.prefixes.items) (base_of a.base.value) ts p (subst P eo h) k

pub ruleset operand_rules = (told_base_refused, told_prefixed)

pub told_arguments_refused : (e : Environment) (c : Context) (least : ℕ) (b : BaseData) (o : Result (List Term) Refusal) (r : Refusal) → ReadsArguments e c least b o → o ≡ Err r → ReadsBase e c least b (Err r)
told_arguments_refused e c least b o r h eo =
    let P : Result (List Term) Refusal → Type 0 = λ x. ReadsArguments e c least b x in
    te.arguments_refused b r (subst P eo h)

pub told_closed : (e : Environment) (c : Context) (least : ℕ) (b : BaseData) (o p : Result (List Term) Refusal) (ts : List Term) → ReadsArguments e c least b o → o ≡ Ok ts → Closes e c least b ts p → ReadsBase e c least b p
told_closed e c least b o p ts h eo k =
    let P : Result (List Term) Refusal → Type 0 = λ x. ReadsArguments e c least b x in
    te.closed b ts p (subst P eo h) k

pub ruleset base_rules = (told_arguments_refused, told_closed)

no_arguments_as : (e : Environment) (c : Context) (least : ℕ) (node other : BaseNode) (b : BaseData) (ts : List Term) → node ≡ other → base_of other ≡ b → arguments_of b ≡ None → ts ≡ [] → ReadsArguments e c least (base_of node) (Ok ts)
no_arguments_as e c least node other b ts en eb h et = subst (λ x. ReadsArguments e c least (base_of node) (Ok x)) (sym et) (te.no_arguments (base_of node) (ap (λ n. arguments_of (base_of n)) en ∙ (ap arguments_of eb ∙ h)))

arguments_as : (e : Environment) (c : Context) (least : ℕ) (node other : BaseNode) (b : BaseData) (us : Chain Place TermNode) (o : Result (List Term) Refusal) → node ≡ other → base_of other ≡ b → arguments_of b ≡ Some (terms_of us) → ReadsAll e c least (terms_of us) o → ReadsArguments e c least (base_of node) o
arguments_as e c least node other b us o en eb h k = te.arguments (base_of node) (terms_of us) o (ap (λ n. arguments_of (base_of n)) en ∙ (ap arguments_of eb ∙ h)) k

pub told_in_group : (e : Environment) (c : Context) (least : ℕ) (node : BaseNode) (p q : Place) (us : Chain Place TermNode) (o : Result (List Term) Refusal) → node ≡ bases.Group p us q → ReadsAll e c least (terms_of us) o → ReadsArguments e c least (base_of node) o
told_in_group e c least node p q us o en h = arguments_as e c least node (bases.Group p us q) _ us o en (base_of-group p us q) refl h

pub told_in_call_with : (e : Environment) (c : Context) (least : ℕ) (node : BaseNode) (w : Word) (p q : Place) (us : Chain Place TermNode) (o : Result (List Term) Refusal) → node ≡ bases.CallWith w p us q → ReadsAll e c least (terms_of us) o → ReadsArguments e c least (base_of node) o
told_in_call_with e c least node w p q us o en h = arguments_as e c least node (bases.CallWith w p us q) _ us o en (base_of-call_with w p us q) refl h

pub told_in_aggregate : (e : Environment) (c : Context) (least : ℕ) (node : BaseNode) (w : Word) (p q : Place) (us : Chain Place TermNode) (o : Result (List Term) Refusal) → node ≡ bases.Aggregate w p us q → ReadsAll e c least (terms_of us) o → ReadsArguments e c least (base_of node) o
told_in_aggregate e c least node w p q us o en h = arguments_as e c least node (bases.Aggregate w p us q) _ us o en (base_of-aggregate w p us q) refl h

pub told_in_brackets : (e : Environment) (c : Context) (least : ℕ) (node : BaseNode) (l r : Word) (us : Chain Place TermNode) (o : Result (List Term) Refusal) → node ≡ bases.Brackets l us r → ReadsAll e c least (terms_of us) o → ReadsArguments e c least (base_of node) o
told_in_brackets e c least node l r us o en h = arguments_as e c least node (bases.Brackets l us r) _ us o en (base_of-brackets l us r) refl h

pub told_in_braces : (e : Environment) (c : Context) (least : ℕ) (node : BaseNode) (p q : Place) (us : Chain Place TermNode) (o : Result (List Term) Refusal) → node ≡ bases.Braces p us q → ReadsAll e c least (terms_of us) o → ReadsArguments e c least (base_of node) o
told_in_braces e c least node p q us o en h = arguments_as e c least node (bases.Braces p us q) _ us o en (base_of-braces p us q) refl h

pub told_in_squares : (e : Environment) (c : Context) (least : ℕ) (node : BaseNode) (p q : Place) (us : Chain Place TermNode) (o : Result (List Term) Refusal) → node ≡ bases.Squares p us q → ReadsAll e c least (terms_of us) o → ReadsArguments e c least (base_of node) o
told_in_squares e c least node p q us o en h = arguments_as e c least node (bases.Squares p us q) _ us o en (base_of-squares p us q) refl h

pub told_no_identifier : (e : Environment) (c : Context) (least : ℕ) (node : BaseNode) (w : Word) (ts : List Term) → node ≡ bases.Identifier w → ts ≡ [] → ReadsArguments e c least (base_of node) (Ok ts)
told_no_identifier e c least node w ts en et = no_arguments_as e c least node (bases.Identifier w) _ ts en (base_of-identifier w) refl et

pub told_no_subject : (e : Environment) (c : Context) (least : ℕ) (node : BaseNode) (p : Place) (ts : List Term) → node ≡ bases.Subject p → ts ≡ [] → ReadsArguments e c least (base_of node) (Ok ts)
told_no_subject e c least node p ts en et = no_arguments_as e c least node (bases.Subject p) _ ts en (base_of-subject p) refl et

pub told_no_numbered : (e : Environment) (c : Context) (least : ℕ) (node : BaseNode) (p : Place) (k : ℕ) (ts : List Term) → node ≡ bases.Argument p k → ts ≡ [] → ReadsArguments e c least (base_of node) (Ok ts)
told_no_numbered e c least node p k ts en et = no_arguments_as e c least node (bases.Argument p k) _ ts en (base_of-argument p k) refl et

pub told_no_call : (e : Environment) (c : Context) (least : ℕ) (node : BaseNode) (w : Word) (p q : Place) (ts : List Term) → node ≡ bases.Call w p q → ts ≡ [] → ReadsArguments e c least (base_of node) (Ok ts)
told_no_call e c least node w p q ts en et = no_arguments_as e c least node (bases.Call w p q) _ ts en (base_of-call w p q) refl et

pub told_no_selector : (e : Environment) (c : Context) (least : ℕ) (node : BaseNode) (p : Place) (w : Word) (ts : List Term) → node ≡ bases.Selector p w → ts ≡ [] → ReadsArguments e c least (base_of node) (Ok ts)
told_no_selector e c least node p w ts en et = no_arguments_as e c least node (bases.Selector p w) _ ts en (base_of-selector p w) refl et

pub told_no_set_term : (e : Environment) (c : Context) (least : ℕ) (node : BaseNode) (p q r s u : Place) (w : Word) (t : TermNode) (ty : Box TypeNode Global) (f : Box FormulaNode Global) (ts : List Term) → node ≡ bases.SetOf p t q w r ty s f u → ts ≡ [] → ReadsArguments e c least (base_of node) (Ok ts)
told_no_set_term e c least node p q r s u w t ty f ts en et = no_arguments_as e c least node (bases.SetOf p t q w r ty s f u) _ ts en (base_of-set_of p t q w r ty s f u) refl et

pub told_no_choice : (e : Environment) (c : Context) (least : ℕ) (node : BaseNode) (p : Place) (xs : Vec AdjectiveNode Global) (w : Word) (ts : List Term) → node ≡ bases.Choice p xs w → ts ≡ [] → ReadsArguments e c least (base_of node) (Ok ts)
told_no_choice e c least node p xs w ts en et = no_arguments_as e c least node (bases.Choice p xs w) _ ts en (base_of-choice p xs w) refl et

pub told_no_choice_structure : (e : Environment) (c : Context) (least : ℕ) (node : BaseNode) (p : Place) (xs : Vec AdjectiveNode Global) (w : Word) (ts : List Term) → node ≡ bases.ChoiceStructure p xs w → ts ≡ [] → ReadsArguments e c least (base_of node) (Ok ts)
told_no_choice_structure e c least node p xs w ts en et = no_arguments_as e c least node (bases.ChoiceStructure p xs w) _ ts en (base_of-choice_structure p xs w) refl et

pub ruleset argument_rules = (told_in_group, told_in_call_with, told_in_aggregate, told_in_brackets, told_in_braces, told_in_squares, told_no_identifier, told_no_subject, told_no_numbered, told_no_call, told_no_selector, told_no_set_term, told_no_choice, told_no_choice_structure)

pub told_first_refused : (e : Environment) (c : Context) (least : ℕ) (ts : Chain Place TermNode) (o : Result Term Refusal) (r : Refusal) → ReadsTerm e c least (term_of ts.first) o → o ≡ Err r → ReadsAll e c least (terms_of ts) (Err r)
told_first_refused e c least ts o r h eo =
    let P : Result Term Refusal → Type 0 = λ x. ReadsTerm e c least (term_of ts.first) x in
    te.all (term_of ts.first) (map next_term_of ts.more.items) (Err r) (te.one_refused (term_of ts.first) (map listed_term (map next_term_of ts.more.items)) [] r (subst P eo h))

-- what the further terms from a place on give, all give
abbrev pub GivesTerms : Environment → Context → ℕ → List (Next Place TermNode) → ℕ → List Term → Chain Place TermNode → Type 0
GivesTerms e c least items i out ts =
    (o : Result (List Term) Refusal) → ReadsEach e c least (map listed_term (map next_term_of (drop i items))) out o → ReadsAll e c least (terms_of ts) o

pub told_first_read : (e : Environment) (c : Context) (least : ℕ) (ts : Chain Place TermNode) (items : List (Next Place TermNode)) (o : Result Term Refusal) (u : Term) (out : List Term) → items ≡ ts.more.items → ReadsTerm e c least (term_of ts.first) o → o ≡ Ok u → out ≡ u ∷ [] → GivesTerms e c least items 0 out ts
told_first_read e c least ts items o u out ei h eo eb p k =
    let P : Result Term Refusal → Type 0 = λ x. ReadsTerm e c least (term_of ts.first) x in
    let one : ReadsEach e c least (map listed_term (map next_term_of ts.more.items)) out p = subst (λ xs. ReadsEach e c least (map listed_term (map next_term_of xs)) out p) ei k in
    te.all (term_of ts.first) (map next_term_of ts.more.items) p (te.one_read (term_of ts.first) (map listed_term (map next_term_of ts.more.items)) [] u p (subst P eo h) (subst (λ xs. ReadsEach e c least (map listed_term (map next_term_of ts.more.items)) xs p) eb one))

drop_at : (k : ℕ) (xs : List (Next Place TermNode)) (x : Next Place TermNode) → k < length xs → x ≡ get_or xs k x → drop k xs ≡ x ∷ drop (suc k) xs
drop_at k [] x lt e = absurd (omega (arith, lt))
drop_at zero (y ∷ ys) x lt e = ap (λ z. z ∷ ys) (sym e)
drop_at (suc k) (y ∷ ys) x lt e = drop_at k ys x (omega (arith, lt)) e

drop-gone : (xs : List (Next Place TermNode)) (i : ℕ) → length xs ≤ i → drop i xs ≡ []
drop-gone [] zero h = refl
drop-gone [] (suc i) h = refl
drop-gone (x ∷ xs) zero h = absurd (omega (arith, h))
drop-gone (x ∷ xs) (suc i) h = drop-gone xs i (omega (arith, h))

pub told_no_more : (e : Environment) (c : Context) (least : ℕ) (items : List (Next Place TermNode)) (i : ℕ) (out : List Term) (ts : Chain Place TermNode) → length items ≤ i → GivesTerms e c least items i out ts → ReadsAll e c least (terms_of ts) (Ok out)
told_no_more e c least items i out ts le g =
    g (Ok out) (subst (λ xs. ReadsEach e c least (map listed_term (map next_term_of xs)) out (Ok out)) (sym (drop-gone items i le)) (te.no_more out))

pub told_one_refused : (e : Environment) (c : Context) (least : ℕ) (items : List (Next Place TermNode)) (i : ℕ) (n : Next Place TermNode) (out : List Term) (ts : Chain Place TermNode) (o : Result Term Refusal) (r : Refusal) → i < length items → n ≡ get_or items i n → ReadsTerm e c least (term_of n.tree) o → o ≡ Err r → GivesTerms e c least items i out ts → ReadsAll e c least (terms_of ts) (Err r)
told_one_refused e c least items i n out ts o r lt at h eo g =
    let P : Result Term Refusal → Type 0 = λ x. ReadsTerm e c least (term_of n.tree) x in
    g (Err r) (subst (λ xs. ReadsEach e c least (map listed_term (map next_term_of xs)) out (Err r)) (sym (drop_at i items n lt at)) (te.one_refused (term_of n.tree) (map listed_term (map next_term_of (drop (suc i) items))) out r (subst P eo h)))

pub told_one_read : (e : Environment) (c : Context) (least : ℕ) (items : List (Next Place TermNode)) (i : ℕ) (n : Next Place TermNode) (out more : List Term) (ts : Chain Place TermNode) (o : Result Term Refusal) (u : Term) → i < length items → n ≡ get_or items i n → ReadsTerm e c least (term_of n.tree) o → o ≡ Ok u → more ≡ out ++ u ∷ [] → GivesTerms e c least items i out ts → GivesTerms e c least items (i + 1) more ts
told_one_read e c least items i n out more ts o u lt at h eo em g q k =
    let P : Result Term Refusal → Type 0 = λ x. ReadsTerm e c least (term_of n.tree) x in
    let one : ReadsEach e c least (map listed_term (map next_term_of (drop (suc i) items))) more q = subst (λ j. ReadsEach e c least (map listed_term (map next_term_of (drop j items))) more q) (add-one i) k in
    g q (subst (λ xs. ReadsEach e c least (map listed_term (map next_term_of xs)) out q) (sym (drop_at i items n lt at)) (te.one_read (term_of n.tree) (map listed_term (map next_term_of (drop (suc i) items))) out u q (subst P eo h) (subst (λ xs. ReadsEach e c least (map listed_term (map next_term_of (drop (suc i) items))) xs q) em one)))

pub ruleset all_rules = (told_first_refused, told_first_read, told_no_more, told_one_refused, told_one_read)

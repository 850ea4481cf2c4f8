-- The readings of theorems and schemes.
use Rattle.std.specs.Prelude.{codes}
use Rattle.std.proofs.Common.{◌≡◌, ℕ, suc, Bool, true, false, ◌||◌, ◌&&◌, List, [], ◌∷◌, ◌++◌, map, refl, sym, ap, subst, ◌∙◌, append_assoc, Option, Some, None}
use Rattle.mz_base.specs.declared.place.Place.{Place}
use Rattle.mz_base.specs.declared.token.MarkedToken.{MarkedToken}
use Rattle.mz_forms.specs.Form.{Form, is_empty, nested, then}
use Rattle.mz_forms.proofs.Choose.{Reshapes}
use Rattle.mz_forms.proofs.Compose.{Apart, head_of}
use Rattle.mz_forms.proofs.Leads.{apart_closed}
use Rattle.mz_forms.proofs.Lists.{Begun}
use Rattle.mz_forms.proofs.Maybe.{Starts}
use Rattle.mz_tree.specs.declared.word.Word.{Word}
use Rattle.mz_tree.specs.declared.lists.Separated.{Separated}
use Rattle.mz_tree.specs.Lists.{levels_separated, spell_separated}
use Rattle.mz_tree_item.specs.declared.schemes.ProvidedTree.{ProvidedTree}
use Rattle.mz_tree_item.specs.declared.schemes.SchemeTree.{SchemeTree}
use Rattle.mz_tree_item.specs.declared.schemes.TheoremTree.{TheoremTree}
use Rattle.mz_tree_item.specs.Rules.{IsScheme}
use Rattle.mz_tree_part.specs.declared.parameter.ParameterTree.{ParameterTree}
use Rattle.mz_tree_part.specs.declared.parameter.ParameterTree.TheVariants as parameter_tree
use Rattle.mz_tree_part.specs.Levels.{levels_parameter}
use Rattle.mz_tree_part.specs.Spell.{spell_parameter}
use Rattle.mz_tree_proof.specs.Reasoning.{JustData, ProofJust, SimpleJust}
use Rattle.mz_tree_proof.specs.declared.references.SimpleTree.TheVariants as simple_tree
use Rattle.mz_tree_proof.specs.declared.propositions.PropositionTree.{PropositionTree}
use Rattle.mz_tree_proof.specs.declared.propositions.PropositionsTree.{PropositionsTree}
use Rattle.mz_pterm.specs.declared.sign.Sign.{Sign}
use Rattle.mz_pterm.specs.declared.sign.Sign.TheVariants as signs
use Rattle.mz_pterm.specs.Sign.{formula_sign, reserved_sign, sign_of}
use Rattle.mz_pterm.specs.Words.{fixed, named, name, word}
use Rattle.mz_pterm.proofs.Bases.{word_at}
use Rattle.mz_pterm.proofs.Signs.{sign_of-fixed}
use Rattle.mz_ptype.specs.Forms.{goes_on_declared}
use Rattle.mz_ptype.proofs.Optional.{never}
use Rattle.mz_patom.specs.Classes.{goes_open}
use Rattle.mz_pformula.specs.Forms.{any_operator, formula_form, formula_takes}
use Rattle.mz_pformula.proofs.Operators.{goes_weaker}
use Rattle.mz_pformula.proofs.Quantifiers.{some_formula}
use Rattle.mz_pjustification.specs.declared.keyword.Keyword.{Keyword}
use Rattle.mz_pjustification.specs.declared.keyword.Keyword.TheVariants as keywords
use Rattle.mz_pjustification.specs.Keyword.{later_keyword, reserved_keyword}
use Rattle.mz_pjustification.specs.Words.{key, keyword, tokens_of}
use Rattle.mz_pjustification.proofs.Taken.{nowhere, or_goes}
use Rattle.mz_pproposition.specs.Forms.{goes_on_proposition, goes_on_propositions, proposition_form, propositions_form}
use Rattle.mz_pstep.proofs.Ends.{Ends, ends_class, ends_then}
use Rattle.mz_ppattern.specs.Words.{is_word, word_form, word_token}
use Rattle.mz_ppattern.proofs.Sets.{apart_off, off_one}
use Rattle.mz_ppattern.proofs.WordSteps.{IsPlain, word_among, word_own, word_told}
use Rattle.mz_ppart.specs.Forms.{parameters_form}
use Rattle.mz_pproof.specs.Forms.{just_form}
use Rattle.mz_pproof.proofs.Stated.{stated_off}
use Rattle.mz_pcluster.proofs.Joined.{Joined}
use Rattle.mz_pblock.specs.declared.schemes.SchemeHead.{SchemeHead}
use Rattle.mz_pblock.specs.declared.schemes.SchemeRest.{SchemeRest}
use Rattle.mz_pblock.specs.Classes.{begins_provided}
use Rattle.mz_pblock.specs.Forms.{optional_provided, provided_form, scheme_form, scheme_head_form, scheme_of, scheme_rest_form, spell_scheme_head, spell_scheme_rest, levels_scheme_rest, theorem_form}
use Rattle.mz_pblock.proofs.ConditionSteps.{ends_just, just_1, some_just}

-- Examples.
abbrev some_proposition : PropositionTree
some_proposition = record { label = None; formula = some_formula }

abbrev some_propositions : PropositionsTree
some_propositions = record { first = some_proposition; more = [] }

abbrev some_parameters : Separated ParameterTree
some_parameters = record { first = parameter_tree.Predicate (record { first = record { name = word_at nowhere }; more = [] }) nowhere None nowhere; more = [] }

abbrev some_rest : SchemeRest
some_rest = record { colon = nowhere; formula = some_formula; provided = None; just = some_just; semicolon = nowhere }

-- A set that has none of the tokens that a justification, or what comes behind it, begins with.
just_off : (c : Sign → Keyword → Bool) → c signs.Other keywords.By ≡ false → c signs.Other keywords.From ≡ false → c signs.Other keywords.Proof ≡ false → c signs.Other keywords.Link ≡ false → c signs.Other keywords.Semicolon ≡ false →
    (k : just_1.Tree) (s : MarkedToken) (x : List MarkedToken) → just_1.spell k ≡ s ∷ x → tokens_of c s ≡ true → ⊥
just_off c by from_ proof link end k s x e g = stated_off some_formula c by from_ proof link end k.0 [] k.1 s x e g

-- A theorem.
abbrev pub theorem_2 : Form MarkedToken
theorem_2 = then proposition_form (λ _. just_1)

abbrev pub theorem_1 : Form MarkedToken
theorem_1 = then (word_form (codes "theorem")) (λ _. theorem_2)

pub joined_theorem_1 : Joined (word_form (codes "theorem")) (λ _. theorem_2)
joined_theorem_1 = record { apart = apart_closed (word_form (codes "theorem")) (λ _. theorem_2) (λ a t. refl); some = λ a is. ((some_proposition, (some_just, nowhere)), (((tt, tt), tt), (tt, tt))) }

pub joined_theorem_2 : Joined proposition_form (λ _. just_1)
joined_theorem_2 = record { apart = λ a k s x isa isk e g. just_off goes_on_proposition refl refl refl refl refl k s x e g; some = λ a is. ((some_just, nowhere), (tt, tt)) }

abbrev pub make_theorem : theorem_1.Tree → TheoremTree
make_theorem k = record { theorem = k.0; proposition = k.1.0; just = k.1.1.0; semicolon = k.1.1.1 }

pub only_theorem : (x : TheoremTree) → theorem_form.IsTree x → (k : theorem_1.Tree) × theorem_1.IsTree k × (x ≡ make_theorem k)
only_theorem x is = ((x.theorem, (x.proposition, (x.just, x.semicolon))), (tt, (is.0, (is.1, tt))), refl)

ends_theorem : Ends theorem_1
ends_theorem = ends_then (word_form (codes "theorem")) (λ _. theorem_2) (λ _. ends_then proposition_form (λ _. just_1) (λ _. ends_just))

pub theorem_spells : (k : theorem_1.Tree) → theorem_form.spell (make_theorem k) ≡ theorem_1.spell k
theorem_spells k = ap (λ z. word_token (codes "theorem") k.0 ∷ z) (append_assoc (proposition_form.spell k.1.0) (just_form.spell k.1.1.0) (key keywords.Semicolon k.1.1.1 ∷ []))

pub as_theorem : (b : List MarkedToken) → Reshapes theorem_form theorem_1 make_theorem b
as_theorem b = record {
  into = λ k is. (is.1.0, is.1.1.0);
  spells = λ k is. theorem_spells k;
  only = λ x is g. only_theorem x is;
  goes = λ k t is g. absurd (ends_theorem.closed k t is g);
  level = λ k is. ap (λ z. 0 ∷ z) (append_assoc (proposition_form.levels k.1.0) (just_form.levels k.1.1.0) (0 ∷ []));
}

-- The premises of a scheme.
abbrev pub provided_1 : Form MarkedToken
provided_1 = then (word_form (codes "provided")) (λ _. propositions_form)

pub joined_provided : Joined (word_form (codes "provided")) (λ _. propositions_form)
joined_provided = record { apart = apart_closed (word_form (codes "provided")) (λ _. propositions_form) (λ a t. refl); some = λ a is. (some_propositions, (((tt, tt), tt), tt)) }

abbrev pub make_provided : provided_1.Tree → ProvidedTree
make_provided k = record { provided = k.0; propositions = k.1 }

pub only_provided : (x : ProvidedTree) → provided_form.IsTree x → (k : provided_1.Tree) × provided_1.IsTree k × (x ≡ make_provided k)
only_provided x is = ((x.provided, x.propositions), (tt, is), refl)

pub as_provided : (b : List MarkedToken) → Reshapes provided_form provided_1 make_provided b
as_provided b = record {
  into = λ k is. is.1;
  spells = λ k is. refl;
  only = λ x is g. only_provided x is;
  goes = λ k t is g. or_goes (propositions_form.goes k.1 t) false (is_empty (propositions_form.spell k.1)) (tokens_of goes_on_propositions t) (λ h. h) (λ h. absurd (never h)) g;
  level = λ k is. refl;
}

pub starts_provided : Starts provided_form begins_provided
starts_provided = record {
  filled = λ x is e. filled x e;
  first = λ x t m is e. ap begins_provided (sym (head_of _ _ _ _ e)) ∙ word_own (codes "provided") x.provided;
}
  where
    filled : (x : ProvidedTree) → provided_form.spell x ≡ [] → ⊥
    filled x e = cc

abbrev behind_provided : List MarkedToken
behind_provided = propositions_form.spell some_propositions

pub begun_provided : (t : MarkedToken) → begins_provided t ≡ true → Begun provided_form t
begun_provided t h = (record { provided = t.token.place; propositions = some_propositions }, behind_provided, (((tt, tt), tt), tt), ap (λ z. z ∷ behind_provided) (sym (word_told (codes "provided") t h)))

-- A scheme up to its parameters.
abbrev pub scheme_head_5 : Form MarkedToken
scheme_head_5 = word signs.CloseBrace

abbrev pub scheme_head_4 : Form MarkedToken
scheme_head_4 = then (nested parameters_form) (λ _. scheme_head_5)

abbrev pub scheme_head_3 : Form MarkedToken
scheme_head_3 = then (nested (word signs.OpenBrace)) (λ _. scheme_head_4)

abbrev pub scheme_head_2 : Form MarkedToken
scheme_head_2 = then (name signs.Identifier) (λ _. scheme_head_3)

abbrev pub scheme_head_1 : Form MarkedToken
scheme_head_1 = then (word_form (codes "scheme")) (λ _. scheme_head_2)

abbrev on_declared : MarkedToken → Bool
on_declared t = goes_on_declared (sign_of t)

close_off : (p : Place) → on_declared (fixed signs.CloseBrace p) ≡ true → ⊥
close_off p g = never (sym (ap goes_on_declared (sign_of-fixed signs.CloseBrace p refl)) ∙ g)

pub joined_scheme_head_1 : Joined (word_form (codes "scheme")) (λ _. scheme_head_2)
joined_scheme_head_1 = record { apart = apart_closed (word_form (codes "scheme")) (λ _. scheme_head_2) (λ a t. refl); some = λ a is. ((word_at nowhere, (nowhere, (some_parameters, nowhere))), (tt, (tt, ((tt, tt), tt)))) }

pub joined_scheme_head_2 : Joined (name signs.Identifier) (λ _. scheme_head_3)
joined_scheme_head_2 = record { apart = apart_closed (name signs.Identifier) (λ _. scheme_head_3) (λ a t. refl); some = λ a is. ((nowhere, (some_parameters, nowhere)), (tt, ((tt, tt), tt))) }

pub joined_scheme_head_3 : Joined (nested (word signs.OpenBrace)) (λ _. scheme_head_4)
joined_scheme_head_3 = record { apart = apart_closed (nested (word signs.OpenBrace)) (λ _. scheme_head_4) (λ a t. refl); some = λ a is. ((some_parameters, nowhere), ((tt, tt), tt)) }

pub joined_scheme_head_4 : Joined (nested parameters_form) (λ _. scheme_head_5)
joined_scheme_head_4 = record { apart = apart_off (nested parameters_form) scheme_head_5 on_declared (λ a t is g. g) (off_one on_declared (fixed signs.CloseBrace) close_off); some = λ a is. (nowhere, tt) }

abbrev pub make_scheme_head : scheme_head_1.Tree → SchemeHead
make_scheme_head k = record { scheme = k.0; name = k.1.0; left = k.1.1.0; parameters = k.1.1.1.0; right = k.1.1.1.1 }

pub only_scheme_head : (x : SchemeHead) → scheme_head_form.IsTree x → (k : scheme_head_1.Tree) × scheme_head_1.IsTree k × (x ≡ make_scheme_head k)
only_scheme_head x is = ((x.scheme, (x.name, (x.left, (x.parameters, x.right)))), (tt, (tt, (tt, (is, tt)))), refl)

ends_scheme_head : Ends scheme_head_1
ends_scheme_head = ends_then (word_form (codes "scheme")) (λ _. scheme_head_2) (λ _. ends_then (name signs.Identifier) (λ _. scheme_head_3) (λ _. ends_then (nested (word signs.OpenBrace)) (λ _. scheme_head_4) (λ _. ends_then (nested parameters_form) (λ _. scheme_head_5) (λ _. ends_class Place (fixed signs.CloseBrace)))))

pub as_scheme_head : (b : List MarkedToken) → Reshapes scheme_head_form scheme_head_1 make_scheme_head b
as_scheme_head b = record {
  into = λ k is. is.1.1.1.0;
  spells = λ k is. refl;
  only = λ x is g. only_scheme_head x is;
  goes = λ k t is g. absurd (ends_scheme_head.closed k t is g);
  level = λ k is. refl;
}

-- What stands behind its parameters.
abbrev pub scheme_rest_3 : Form MarkedToken
scheme_rest_3 = then optional_provided (λ _. just_1)

abbrev pub scheme_rest_2 : Form MarkedToken
scheme_rest_2 = then (formula_form false) (λ _. scheme_rest_3)

abbrev pub scheme_rest_1 : Form MarkedToken
scheme_rest_1 = then (keyword keywords.Colon) (λ _. scheme_rest_2)

plain_provided : IsPlain (codes "provided")
unfolding reserved_sign formula_sign reserved_keyword later_keyword
plain_provided = (refl, refl)

abbrev on_formula : Sign → Keyword → Bool
on_formula s k = goes_open any_operator s

-- `provided` or a justification stands behind what doesn't go on the formula
provided_off : (o : Option ProvidedTree) (k : just_1.Tree) (s : MarkedToken) (x : List MarkedToken) → optional_provided.spell o ++ just_1.spell k ≡ s ∷ x → tokens_of on_formula s ≡ true → ⊥
provided_off None k s x e g = just_off on_formula refl refl refl refl refl k s x e g
provided_off (Some a) k s x e g = never (sym (word_among on_formula (codes "provided") a.provided plain_provided) ∙ (ap (tokens_of on_formula) (head_of _ _ _ _ e) ∙ g))

-- no token that a justification begins with is `provided`
just_unprovided : (k : just_1.Tree) (s : MarkedToken) (x : List MarkedToken) → just_1.spell k ≡ s ∷ x → begins_provided s ≡ true → ⊥
just_unprovided (SimpleJust simple_tree.Nothing, q) s x e g = never (ap begins_provided (head_of _ _ _ _ e) ∙ g)
just_unprovided (SimpleJust (simple_tree.By p rs), q) s x e g = never (ap begins_provided (head_of _ _ _ _ e) ∙ g)
just_unprovided (SimpleJust (simple_tree.From p r o), q) s x e g = never (ap begins_provided (head_of _ _ _ _ e) ∙ g)
just_unprovided (ProofJust p b r, q) s x e g = never (ap begins_provided (head_of _ _ _ _ e) ∙ g)

optional_off : (o : Option ProvidedTree) (k : just_1.Tree) (s : MarkedToken) (x : List MarkedToken) → just_1.spell k ≡ s ∷ x → optional_provided.goes o s ≡ true → ⊥
optional_off (Some a) k s x e g = just_off goes_on_propositions refl refl refl refl refl k s x e g
optional_off None k s x e g = just_unprovided k s x e g

pub joined_scheme_rest_1 : Joined (keyword keywords.Colon) (λ _. scheme_rest_2)
joined_scheme_rest_1 = record { apart = apart_closed (keyword keywords.Colon) (λ _. scheme_rest_2) (λ a t. refl); some = λ a is. ((some_formula, (None, (some_just, nowhere))), (((tt, tt), tt), (tt, (tt, tt)))) }

pub joined_scheme_rest_2 : Joined (formula_form false) (λ _. scheme_rest_3)
joined_scheme_rest_2 = record { apart = λ a k s x isa isk e g. provided_off k.0 k.1 s x e (goes_weaker (formula_takes a) any_operator (λ o h. refl) (sign_of s) g); some = λ a is. ((None, (some_just, nowhere)), (tt, (tt, tt))) }

pub joined_scheme_rest_3 : Joined optional_provided (λ _. just_1)
joined_scheme_rest_3 = record { apart = λ a k s x isa isk e g. optional_off a k s x e g; some = λ a is. ((some_just, nowhere), (tt, tt)) }

abbrev pub make_scheme_rest : scheme_rest_1.Tree → SchemeRest
make_scheme_rest k = record { colon = k.0; formula = k.1.0; provided = k.1.1.0; just = k.1.1.1.0; semicolon = k.1.1.1.1 }

pub only_scheme_rest : (x : SchemeRest) → scheme_rest_form.IsTree x → (k : scheme_rest_1.Tree) × scheme_rest_1.IsTree k × (x ≡ make_scheme_rest k)
only_scheme_rest x is = ((x.colon, (x.formula, (x.provided, (x.just, x.semicolon)))), (tt, (is.0, (is.1, (is.2, tt)))), refl)

ends_scheme_rest : Ends scheme_rest_1
ends_scheme_rest = ends_then (keyword keywords.Colon) (λ _. scheme_rest_2) (λ _. ends_then (formula_form false) (λ _. scheme_rest_3) (λ _. ends_then optional_provided (λ _. just_1) (λ _. ends_just)))

pub as_scheme_rest : (b : List MarkedToken) → Reshapes scheme_rest_form scheme_rest_1 make_scheme_rest b
as_scheme_rest b = record {
  into = λ k is. (is.1.0, is.1.1.0, is.1.1.1.0);
  spells = λ k is. refl;
  only = λ x is g. only_scheme_rest x is;
  goes = λ k t is g. absurd (ends_scheme_rest.closed k t is g);
  level = λ k is. refl;
}

-- A scheme.
abbrev pub scheme_1 : Form MarkedToken
scheme_1 = then scheme_head_form (λ _. scheme_rest_form)

abbrev pub make_scheme : (SchemeHead × SchemeRest) → SchemeTree
make_scheme k = scheme_of k.0 k.1

pub joined_scheme : Joined scheme_head_form (λ _. scheme_rest_form)
joined_scheme = record { apart = apart_closed scheme_head_form (λ _. scheme_rest_form) (λ a t. refl); some = λ a is. (some_rest, (((tt, tt), tt), tt, tt)) }

pub only_scheme : (x : SchemeTree) → scheme_form.IsTree x → (k : scheme_1.Tree) × scheme_1.IsTree k × (x ≡ make_scheme k)
only_scheme x is = ((record { scheme = x.scheme; name = x.name; left = x.left; parameters = x.parameters; right = x.right }, record { colon = x.colon; formula = x.formula; provided = x.provided; just = x.just; semicolon = x.semicolon }), (is.0, (is.1, is.2, is.3)), refl)

-- lists that group to the left
append-five : {X : Type 0} (v w x y z : List X) → (((v ++ w) ++ x) ++ y) ++ z ≡ v ++ (w ++ (x ++ (y ++ z)))
append-five v w x y z = append_assoc ((v ++ w) ++ x) y z ∙ (append_assoc (v ++ w) x (y ++ z) ∙ append_assoc v w (x ++ (y ++ z)))

append-regroup : {X : Type 0} (p f o j s : List X) (r c : X) → (((p ++ (r ∷ (c ∷ f))) ++ o) ++ j) ++ s ≡ (p ++ r ∷ []) ++ (c ∷ (f ++ (o ++ (j ++ s))))
append-regroup p f o j s r c = append-five p (r ∷ (c ∷ f)) o j s ∙ sym (append_assoc p (r ∷ []) (c ∷ (f ++ (o ++ (j ++ s)))))

pub scheme_spells : (k : scheme_1.Tree) → scheme_form.spell (make_scheme k) ≡ scheme_1.spell k
scheme_spells k = ap (λ z. word_token (codes "scheme") k.0.scheme ∷ (named signs.Identifier k.0.name ∷ (fixed signs.OpenBrace k.0.left ∷ z)))
    (append-regroup (spell_separated spell_parameter k.0.parameters) ((formula_form false).spell k.1.formula) (optional_provided.spell k.1.provided) (just_form.spell k.1.just) (key keywords.Semicolon k.1.semicolon ∷ []) (fixed signs.CloseBrace k.0.right) (key keywords.Colon k.1.colon))

scheme_levels : (k : scheme_1.Tree) → scheme_form.levels (make_scheme k) ≡ scheme_1.levels k
scheme_levels k = ap (λ z. 0 ∷ (0 ∷ (1 ∷ z)))
    (append-regroup (map suc (levels_separated levels_parameter k.0.parameters)) ((formula_form false).levels k.1.formula) (optional_provided.levels k.1.provided) (just_form.levels k.1.just) (0 ∷ []) 0 0)

ends_scheme : Ends scheme_1
ends_scheme = ends_then scheme_head_form (λ _. scheme_rest_form) (λ _. record { filled = λ x is e. cc; closed = λ x t is g. never g })

pub as_scheme : (b : List MarkedToken) → Reshapes scheme_form scheme_1 make_scheme b
as_scheme b = record {
  into = λ k is. (is.0, is.1.0, is.1.1, is.1.2);
  spells = λ k is. scheme_spells k;
  only = λ x is g. only_scheme x is;
  goes = λ k t is g. absurd (ends_scheme.closed k t is g);
  level = λ k is. scheme_levels k;
}

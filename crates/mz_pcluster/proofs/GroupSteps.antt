-- The readings of what begins with terms in parentheses.
use Rattle.std.specs.declared.alloc.Global.{Global}
use Rattle.std.proofs.Common.{◌≡◌, ℕ, Bool, true, false, List, [], ◌∷◌, ◌++◌, map, suc, refl, sym, ap, subst, ◌∙◌, append_assoc, Option, Some, None, Result, Ok, Err, Vec}
use Rattle.mz_base.specs.declared.place.Place.{Place}
use Rattle.mz_base.specs.declared.token.MarkedToken.{MarkedToken}
use Rattle.mz_forms.specs.declared.refusal.Refusal.{Refusal}
use Rattle.mz_forms.specs.Form.{Form, Agrees, Found, nested, then}
use Rattle.mz_forms.specs.Reading.{Builds, Refuses}
use Rattle.mz_forms.proofs.Choose.{Reshapes}
use Rattle.mz_forms.proofs.Compose.{Apart, head_of}
use Rattle.mz_forms.proofs.Leads.{apart_closed}
use Rattle.mz_tree.specs.declared.word.Word.{Word}
use Rattle.mz_tree.specs.declared.chain.Chain.{Chain}
use Rattle.mz_tree.specs.declared.nodes.AdjectiveNode.{AdjectiveNode}
use Rattle.mz_tree.specs.declared.nodes.AdjectiveNode.TheVariants as adjective_nodes
use Rattle.mz_tree.specs.declared.nodes.TermNode.{TermNode}
use Rattle.mz_tree.specs.Views.{adjective_of, adjectives_seen, terms_of}
use Rattle.mz_tree.proofs.Views.{adjective_of-with_terms}
use Rattle.mz_tree.specs.Trees.{AdjectiveData, BaseData, PieceData, OperandPiece, FunctorPiece, PieceList, TermData, TermsData, RunTerm, GroupBase, no_pieces, more_pieces, no_prefixs, adjectives_of}
use Rattle.mz_tree.specs.Spelled as spelled
use Rattle.mz_tree.specs.Spell.{spell_adjective_list, spell_base, spell_piece_list, spell_prefix_list, spell_terms}
use Rattle.mz_tree.specs.Levels.{levels_adjective_list, levels_piece_list, levels_terms}
use Rattle.mz_tree.specs.Rules.{AreTerms, GoesOn, Last, last_of, start}
use Rattle.mz_pterm.specs.declared.sign.Sign.{Sign}
use Rattle.mz_pterm.specs.declared.sign.Sign.TheVariants as signs
use Rattle.mz_pterm.specs.Classes.{begins_operand, goes_on_term}
use Rattle.mz_pterm.specs.Sign.{sign_of}
use Rattle.mz_pterm.specs.Words.{fixed, named, name, word}
use Rattle.mz_pterm.specs.Forms.{bracket, make_group, rest_of_term, terms_form, to_close}
use Rattle.mz_pterm.proofs.Bases.{word_at}
use Rattle.mz_pterm.proofs.Operands.{operand_begins}
use Rattle.mz_pterm.proofs.Signs.{sign_of-functor, sign_of-named}
use Rattle.mz_ptype.specs.Forms.{adjective_form, adjective_list_form}
use Rattle.mz_ptype.proofs.AdjectiveSteps.{list_levels, list_spells}
use Rattle.mz_ptype.proofs.Optional.{never, true_not_false}
use Rattle.mz_pjustification.proofs.Taken.{nowhere}
use Rattle.mz_pstep.proofs.Ends.{Ends, ends_class, ends_then}
use Rattle.mz_ppattern.specs.Words.{arrow_token}
use Rattle.mz_ppattern.specs.Optional.{next_has}
use Rattle.mz_ppattern.proofs.LociSteps.{has_not, has_so}
use Rattle.mz_ppattern.proofs.Sets.{Off, apart_off, head_off}
use Rattle.mz_ppattern.proofs.WordSteps.{arrow_signed}
use Rattle.mz_pcluster.specs.declared.parts.AssignedTree.{AssignedTree}
use Rattle.mz_pcluster.specs.declared.parts.BehindTree.{BehindTree}
use Rattle.mz_pcluster.specs.declared.parts.RegisteredTree.{RegisteredTree}
use Rattle.mz_pcluster.specs.declared.parts.RegisteredTree.TheVariants as registereds
use Rattle.mz_pcluster.specs.Classes.{begins_attribute, is_attribute}
use Rattle.mz_pcluster.specs.Forms.{assigned_form, attributed, attributed_form, behind_form, behind_group_form, continued, continued_form, group_form, of_group, spell_assigned, spell_behind_group, with_attribute, with_group, with_pieces, BehindGroup, Bracketed, IsBehindGroup, ReadsAttributed, ReadsBehindGroup, ReadsContinued, ReadsGroup}
use Rattle.mz_pcluster.proofs.Joined.{Joined, both_found, first_refused, second_refused, shaped_found, shaped_refused}
use Rattle.mz_pcluster.proofs.PartSteps.{behind_filled, behind_off, headed, on_adjective, some_assigned, some_behind}

-- The first tokens.
abbrev pub on_term : MarkedToken → Bool
on_term t = goes_on_term (sign_of t)

pub assigned_off_term : Off on_term assigned_form
assigned_off_term a s m is e g = head_off on_term (arrow_token a.arrow) s _ m e (λ h. never (sym (ap goes_on_term (arrow_signed a.arrow)) ∙ h)) g

-- An attribute behind the parenthesis.
abbrev pub attributed_2 : Form MarkedToken
attributed_2 = then (adjective_list_form false) (λ _. behind_form)

pub joined_attributed_1 : Joined (name signs.Attribute) (λ _. attributed_2)
joined_attributed_1 = record { apart = apart_closed (name signs.Attribute) (λ _. attributed_2) (λ a t. refl); some = λ a is. (([], some_behind), (tt, (tt, tt))) }

pub joined_attributed_2 : Joined (adjective_list_form false) (λ _. behind_form)
joined_attributed_2 = record { apart = apart_off (adjective_list_form false) behind_form on_adjective (λ a t is g. g) behind_off; some = λ a is. (some_behind, (tt, tt)) }

-- A term that goes on.
pub joined_continued : (k : Bracketed) → Joined (rest_of_term false (last_of start (make_group k))) (λ _. assigned_form)
joined_continued k = record { apart = apart_off (rest_of_term false (last_of start (make_group k))) assigned_form on_term (λ a t is g. g) assigned_off_term; some = λ a is. (some_assigned, ((tt, tt), tt)) }

-- What stands behind the parenthesis.
abbrev pub put_attributed : (Word × (List AdjectiveData × BehindTree)) → BehindGroup
put_attributed r = attributed r.0 r.1.0 r.1.1

abbrev pub put_continued : (PieceList × AssignedTree) → BehindGroup
put_continued r = continued r.0 r.1

continued_filled : (ps : PieceList) (a : AssignedTree) → spell_piece_list ps ++ spell_assigned a ≡ [] → ⊥
continued_filled no_pieces a e = cc
continued_filled (more_pieces p ps) a e = right_filled (spell_piece_list (more_pieces p ps)) (spell_assigned a) (λ f. cc) e
  where
    right_filled : (v w : List MarkedToken) → (w ≡ [] → ⊥) → v ++ w ≡ [] → ⊥
    right_filled [] w h f = h f
    right_filled (t ∷ v) w h f = cc

operand_no_attribute : (s : Sign) → begins_operand s ≡ true → is_attribute s ≡ false
operand_no_attribute signs.Attribute e = cc
operand_no_attribute _ e = refl

pub continued_first : (l : Last) (ps : PieceList) (a : AssignedTree) (t : MarkedToken) (m : List MarkedToken) → GoesOn false l ps → spell_piece_list ps ++ spell_assigned a ≡ t ∷ m → is_attribute (sign_of t) ≡ false
continued_first l no_pieces a t m is e = ap is_attribute (sym (ap sign_of (head_of _ _ _ _ e)) ∙ arrow_signed a.arrow)
continued_first l (more_pieces (FunctorPiece w n) ps) a t m is e = ap is_attribute (sym (ap sign_of (head_of _ _ _ _ e)) ∙ sign_of-functor w n)
continued_first l (more_pieces (OperandPiece x b) ps) a t m is e = operand_no_attribute (sign_of t)
    (operand_begins false x b (spell_piece_list ps ++ spell_assigned a) t m is.0.1 is.0.2 (sym (append_assoc (spell_prefix_list x ++ spell_base b) (spell_piece_list ps) (spell_assigned a)) ∙ e))

ends_behind : Ends behind_form
ends_behind = record { filled = λ x is e. behind_filled x is e; closed = λ x t is g. never g }

ends_assigned : Ends assigned_form
ends_assigned = record { filled = λ x is e. cc; closed = λ x t is g. never g }

ends_attributed : Ends attributed_form
ends_attributed = ends_then (name signs.Attribute) (λ _. attributed_2) (λ _. ends_then (adjective_list_form false) (λ _. behind_form) (λ _. ends_behind))

ends_continued : (k : Bracketed) → Ends (continued_form k)
ends_continued k = ends_then (rest_of_term false (last_of start (make_group k))) (λ _. assigned_form) (λ _. ends_assigned)

pub as_attributed : (k : Bracketed) (b : List MarkedToken) → next_has begins_attribute b ≡ true → Reshapes (behind_group_form k) attributed_form put_attributed b
as_attributed k b h = record {
  into = λ r is. is;
  spells = λ r is. refl;
  only = λ x is g. only x is g;
  goes = λ r t is g. absurd (ends_attributed.closed r t is g);
  level = λ r is. refl;
}
  where
    only : (x : BehindGroup) → IsBehindGroup k x → Agrees b (spell_behind_group x) → (r : attributed_form.Tree) × attributed_form.IsTree r × (x ≡ put_attributed r)
    only (attributed w ads c) is g = ((w, (ads, c)), is, refl)
    only (continued ps a) is g = let f = headed b _ g (continued_filled ps a) in absurd (has_not begins_attribute b f.0 f.1 h (continued_first (last_of start (make_group k)) ps a f.0 f.1 is.0 f.2) f.3)

pub as_continued : (k : Bracketed) (b : List MarkedToken) → next_has begins_attribute b ≡ false → Reshapes (behind_group_form k) (continued_form k) put_continued b
as_continued k b h = record {
  into = λ r is. is;
  spells = λ r is. refl;
  only = λ x is g. only x is g;
  goes = λ r t is g. absurd ((ends_continued k).closed r t is g);
  level = λ r is. refl;
}
  where
    only : (x : BehindGroup) → IsBehindGroup k x → Agrees b (spell_behind_group x) → (r : (continued_form k).Tree) × (continued_form k).IsTree r × (x ≡ put_continued r)
    only (attributed w ads c) is g = absurd (has_so begins_attribute b (named signs.Attribute w) _ h (ap is_attribute (sign_of-named signs.Attribute w refl)) g)
    only (continued ps a) is g = ((ps, a), is, refl)

-- The exits of the reading behind it.
pub gives_attributed : (k : Bracketed) (room : ℕ) (b : List MarkedToken) (r : Result RegisteredTree Refusal) (after : List MarkedToken) → next_has begins_attribute b ≡ true → ReadsAttributed room k b r after → ReadsBehindGroup room k b r after
gives_attributed k room b (Ok x) after h f = (put_attributed f.0, shaped_found (behind_group_form k) attributed_form put_attributed room b (as_attributed k b h) f.0 after f.1, f.2)
gives_attributed k room b (Err e) after h f = shaped_refused (behind_group_form k) attributed_form put_attributed room b (as_attributed k b h) after e f

pub gives_continued : (k : Bracketed) (room : ℕ) (b : List MarkedToken) (r : Result RegisteredTree Refusal) (after : List MarkedToken) → next_has begins_attribute b ≡ false → ReadsContinued room k b r after → ReadsBehindGroup room k b r after
gives_continued k room b (Ok x) after h f = (put_continued f.0, shaped_found (behind_group_form k) (continued_form k) put_continued room b (as_continued k b h) f.0 after f.1, f.2)
gives_continued k room b (Err e) after h f = shaped_refused (behind_group_form k) (continued_form k) put_continued room b (as_continued k b h) after e f

-- The parenthesis, and what stands behind it.
abbrev pub parenthesis : Form MarkedToken
parenthesis = bracket false signs.Open signs.Close

ends_parenthesis : Ends parenthesis
ends_parenthesis = ends_then (nested (word signs.Open)) (λ _. to_close false signs.Close) (λ _. ends_then (nested (terms_form false)) (λ _. word signs.Close) (λ _. ends_class Place (fixed signs.Close)))

pub behind_group_filled : (x : BehindGroup) → spell_behind_group x ≡ [] → ⊥
behind_group_filled (attributed w ads b) e = cc
behind_group_filled (continued ps a) e = continued_filled ps a e

pub ends_group : Ends group_form
ends_group = ends_then parenthesis behind_group_form (λ k. record { filled = λ x is e. behind_group_filled x e; closed = λ x t is g. never g })

some_behind_group : (k : Bracketed) → (g : BehindGroup) × IsBehindGroup k g
some_behind_group k = (attributed (word_at nowhere) [] some_behind, (tt, (tt, (tt, tt))))

pub joined_group : Joined parenthesis behind_group_form
joined_group = record { apart = λ a k s x isa isk e g. ends_parenthesis.closed a s isa g; some = λ a is. some_behind_group a }

pub group_given : (k : Bracketed) (room : ℕ) (b c : List MarkedToken) (r : Result RegisteredTree Refusal) (after : List MarkedToken) → Found parenthesis room b k c → ReadsBehindGroup room k c r after → ReadsGroup room b r after
group_given k room b c (Ok x) after found f = ((k, f.0), both_found parenthesis behind_group_form joined_group room b k c found f.0 after f.1, f.2)
group_given k room b c (Err e) after found f = second_refused parenthesis behind_group_form joined_group room b k c found after e f

-- A term that begins with the parenthesis and was read.
pub continued_refused : (k : Bracketed) (room : ℕ) (l : Last) (b after : List MarkedToken) (e : Refusal) → l ≡ last_of start (make_group k) → Refuses (rest_of_term false l) room b e after → Refuses (continued_form k) room b e after
continued_refused k room l b after e same h =
    let R : Last → Type 0 = λ z. Refuses (rest_of_term false z) room b e after in
    first_refused (rest_of_term false (last_of start (make_group k))) (λ _. assigned_form) (joined_continued k) room b after e (subst R same h)

module _ (k : Bracketed) (room : ℕ) (l : Last) (p : PieceData) (x : TermData) (b c after : List MarkedToken) where
  found_pieces : l ≡ last_of start (make_group k) → (ps : PieceList) → Found (rest_of_term false l) room b ps c → Found (rest_of_term false (last_of start (make_group k))) room b ps c
  found_pieces same ps h = let F : Last → Type 0 = λ z. Found (rest_of_term false z) room b ps c in subst F same h

  pub assigned_refused : (e : Refusal) → l ≡ last_of start (make_group k) → p ≡ OperandPiece no_prefixs (make_group k) → Builds (rest_of_term false l) room (RunTerm p) x b c → Refuses assigned_form room c e after → Refuses (continued_form k) room b e after
  assigned_refused e same piece read h = second_refused (rest_of_term false (last_of start (make_group k))) (λ _. assigned_form) (joined_continued k) room b read.0 c (found_pieces same read.0 read.1) after e h

  pub continued_given : (a : AssignedTree) → l ≡ last_of start (make_group k) → p ≡ OperandPiece no_prefixs (make_group k) → Builds (rest_of_term false l) room (RunTerm p) x b c → Found assigned_form room c a after → Builds (continued_form k) room (with_pieces k) (registereds.Term x a) b after
  continued_given a same piece read h = (
    (read.0, a),
    both_found (rest_of_term false (last_of start (make_group k))) (λ _. assigned_form) (joined_continued k) room b read.0 c (found_pieces same read.0 read.1) a after h,
    ap (λ z. registereds.Term z a) (read.2 ∙ ap (λ z. RunTerm z read.0) piece),
  )

-- Adjectives of which the first has the terms.
pub attributed_seen : (p : Place) (c : Chain Place TermNode) (q : Place) (w : Word) (v : Vec AdjectiveNode Global) (b : BehindTree) → registereds.Adjectives (adjectives_seen (adjective_nodes.WithTerms None p c q w) v) b ≡ with_attribute (p, (terms_of c, q)) (w, (map adjective_of v.items, b))
attributed_seen p c q w v b = ap (λ z. registereds.Adjectives (record { first = z; more = adjectives_of (map adjective_of v.items) }) b) (adjective_of-with_terms None p c q w)

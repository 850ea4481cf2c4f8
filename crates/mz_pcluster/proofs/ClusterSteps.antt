-- The readings of clusters.
use Rattle.std.specs.Prelude.{codes, if◌then◌else◌}
use Rattle.std.proofs.Common.{◌≡◌, ℕ, Bool, true, false, List, [], ◌∷◌, ◌++◌, map, suc, refl, sym, ap, subst, ◌∙◌, append_assoc, get_or, ◌⊎◌, inl, inr, Option, Some, None, Result, Ok, Err}
use Rattle.mz_base.specs.declared.place.Place.{Place}
use Rattle.mz_base.specs.declared.token.MarkedToken.{MarkedToken}
use Rattle.mz_forms.specs.declared.refusal.Refusal.{Refusal}
use Rattle.mz_forms.specs.Form.{Form, Agrees, Found, Leads, then}
use Rattle.mz_forms.specs.Reading.{Reads, Refuses}
use Rattle.mz_forms.proofs.Choose.{Reshapes, agrees_self}
use Rattle.mz_forms.proofs.Compose.{Apart, append_nil, head_of}
use Rattle.mz_forms.proofs.Leads.{apart_closed, leads_as, leads_look, leads_on, passes}
use Rattle.mz_forms.proofs.Lists.{Begun}
use Rattle.mz_forms.proofs.Look.{Looks}
use Rattle.mz_tree.specs.declared.word.Word.{Word}
use Rattle.mz_tree.specs.Trees.{AdjectiveData, AdjectivesData, BaseData, TermData, TermsData, TypeData, RunTerm, FunctorPiece, OperandPiece, SelectorPrefix, ChoiceOfPrefix, ChoiceOverPrefix, IdentifierBase, SubjectBase, ArgumentBase, GroupBase, CallBase, CallWithBase, SelectorBase, AggregateBase, BracketsBase, BracesBase, SquaresBase, SetOfBase, ChoiceBase, ChoiceStructureBase, PlainAdjective, WithIdentifierAdjective, WithTermsAdjective, ModeType, ModeOfType, StructureType, StructureOverType, no_adjectives, more_adjectives, no_pieces, no_prefixs, more_prefixs, adjectives_of}
use Rattle.mz_tree.specs.Spelled.{maybe}
use Rattle.mz_tree.specs.Spell.{spell_adjective, spell_adjective_list, spell_adjectives, spell_base, spell_piece_list, spell_term, spell_terms, spell_type}
use Rattle.mz_tree.specs.Levels.{levels_adjective, levels_adjective_list, levels_adjectives, levels_base, levels_piece_list, levels_term, levels_terms, levels_type}
use Rattle.mz_tree.specs.Rules.{AreSomeAdjectives, IsAdjective, IsBase, IsTerm, IsType}
use Rattle.mz_tree_part.specs.declared.cluster.ForTypeTree.{ForTypeTree}
use Rattle.mz_tree_part.specs.declared.cluster.ClusterTree.{ClusterTree}
use Rattle.mz_tree_part.specs.declared.cluster.ConditionalTree.{ConditionalTree}
use Rattle.mz_tree_part.specs.declared.cluster.ExistentialTree.{ExistentialTree}
use Rattle.mz_tree_part.specs.declared.cluster.ClusterTree.TheVariants as clusters
use Rattle.mz_tree_part.specs.Levels.{levels_cluster, levels_for_type}
use Rattle.mz_tree_part.specs.Rules.{HasNoAdjectives, IsCluster}
use Rattle.mz_tree_part.specs.Spell.{spell_cluster, spell_for_type}
use Rattle.mz_pterm.specs.declared.sign.Sign.{Sign}
use Rattle.mz_pterm.specs.declared.sign.Sign.TheVariants as signs
use Rattle.mz_pterm.specs.Sign.{sign_of}
use Rattle.mz_pterm.specs.Words.{fixed, named, word_of}
use Rattle.mz_pterm.specs.Forms.{make_group, term_form}
use Rattle.mz_pterm.proofs.Bases.{word_at}
use Rattle.mz_pterm.proofs.Signs.{sign_of-fixed, sign_of-named, told_fixed, told_named}
use Rattle.mz_ptype.specs.Classes.{begins_adjective}
use Rattle.mz_ptype.specs.Forms.{adjective_form, adjective_list_form, adjectives_form}
use Rattle.mz_ptype.proofs.AdjectiveSteps.{list_into, list_levels, list_spells, only_listed}
use Rattle.mz_ptype.proofs.Optional.{never, true_not_false}
use Rattle.mz_patom.specs.Classes.{is_identifier}
use Rattle.mz_pformula.proofs.Begun.{begun, leads_begun}
use Rattle.mz_pformula.proofs.Identifiers.{identifier_is}
use Rattle.mz_pjustification.specs.declared.keyword.Keyword.TheVariants as keywords
use Rattle.mz_pjustification.specs.Words.{key}
use Rattle.mz_pjustification.proofs.Taken.{nowhere}
use Rattle.mz_pstep.proofs.Ends.{Ends, ends_then}
use Rattle.mz_ppattern.specs.Words.{arrow_token, is_arrow, is_word, word_form, word_token}
use Rattle.mz_ppattern.specs.Optional.{plainly}
use Rattle.mz_ppattern.proofs.Sets.{apart_off}
use Rattle.mz_ppattern.proofs.WordSteps.{arrow_own, arrow_signed, arrow_told, word_told}
use Rattle.mz_pcluster.specs.declared.kinds.ClusterKind.{ClusterKind}
use Rattle.mz_pcluster.specs.declared.kinds.ClusterKind.TheVariants as kinds
use Rattle.mz_pcluster.specs.declared.parts.AssignedTree.{AssignedTree}
use Rattle.mz_pcluster.specs.declared.parts.BehindTree.{BehindTree}
use Rattle.mz_pcluster.specs.declared.parts.BehindTree.TheVariants as behinds
use Rattle.mz_pcluster.specs.declared.parts.ImpliedTree.{ImpliedTree}
use Rattle.mz_pcluster.specs.declared.parts.RegisteredTree.{RegisteredTree}
use Rattle.mz_pcluster.specs.declared.parts.RegisteredTree.TheVariants as registereds
use Rattle.mz_pcluster.specs.Classes.{cluster_kind, first_kind, kind_behind, second_kind}
use Rattle.mz_pcluster.specs.Forms.{adjectives_first, assigned_form, attributed, behind_form, cluster_form, cluster_of, conditional_of, continued, group_form, implied_form, of_adjectives, of_group, of_term, term_first, registered_form, spell_assigned, spell_behind, spell_registered, levels_assigned, levels_behind, levels_registered, BehindGroup, Bracketed, IsAssigned, IsBehind, IsRegistered, ReadsAdjectives, ReadsGroup, ReadsTerm}
use Rattle.mz_pcluster.proofs.GroupSteps.{assigned_off_term, ends_group, on_term}
use Rattle.mz_pcluster.proofs.Joined.{Joined, both_found, first_refused, second_refused, shaped_found, shaped_refused}
use Rattle.mz_pcluster.proofs.KindSteps.{adjective_kind, base_kind, kind_of, kind_told, piece_kind, term_kind}
use Rattle.mz_pcluster.proofs.PartSteps.{adjective_first, behind_filled, behind_off, headed, no_arrow, on_adjective, some_adjectives, some_assigned, some_behind, some_implied}

-- Adjectives, or a term, and what stands behind them.
pub joined_adjectives : Joined (adjectives_form false) (λ _. behind_form)
joined_adjectives = record { apart = apart_off (adjectives_form false) behind_form on_adjective (λ a t is g. g) behind_off; some = λ a is. (some_behind, (tt, tt)) }

pub joined_term : Joined (term_form false) (λ _. assigned_form)
joined_term = record { apart = apart_off (term_form false) assigned_form on_term (λ a t is g. g) assigned_off_term; some = λ a is. (some_assigned, ((tt, tt), tt)) }

-- Each tree has a token.
right_filled : (v w : List MarkedToken) → (w ≡ [] → ⊥) → v ++ w ≡ [] → ⊥
right_filled [] w h f = h f
right_filled (t ∷ v) w h f = cc

pub registered_filled : (x : RegisteredTree) → IsRegistered x → spell_registered x ≡ [] → ⊥
registered_filled (registereds.Implied a) is e = cc
registered_filled (registereds.Adjectives a b) is e = right_filled (spell_adjectives a) (spell_behind b) (λ f. behind_filled b is.1 f) e
registered_filled (registereds.Term a b) is e = right_filled (spell_term a) (spell_assigned b) (λ f. filled f) e
  where
    filled : spell_assigned b ≡ [] → ⊥
    filled f = cc

-- The trees of each kind.
abbrev pub of_implied : ImpliedTree → RegisteredTree
of_implied a = registereds.Implied a

adjective_no_arrow : (x : AdjectiveData) → adjective_kind x ≡ kinds.Arrow → ⊥
adjective_no_arrow (PlainAdjective o w) e = cc
adjective_no_arrow (WithIdentifierAdjective o v w) e = cc
adjective_no_arrow (WithTermsAdjective None p ts q w) e = cc
adjective_no_arrow (WithTermsAdjective (Some r) p ts q w) e = cc

adjective_no_term : (x : AdjectiveData) → adjective_kind x ≡ kinds.Term → ⊥
adjective_no_term (PlainAdjective o w) e = cc
adjective_no_term (WithIdentifierAdjective o v w) e = cc
adjective_no_term (WithTermsAdjective None p ts q w) e = cc
adjective_no_term (WithTermsAdjective (Some r) p ts q w) e = cc

base_no_arrow : (b : BaseData) → base_kind b ≡ kinds.Arrow → ⊥
base_no_arrow (GroupBase p ts q) e = cc
base_no_arrow _ e = cc

base_no_adjectives : (b : BaseData) → base_kind b ≡ kinds.Adjectives → ⊥
base_no_adjectives (GroupBase p ts q) e = cc
base_no_adjectives _ e = cc

term_no_arrow : (x : TermData) → term_kind x ≡ kinds.Arrow → ⊥
term_no_arrow (RunTerm (FunctorPiece w n) ps) e = cc
term_no_arrow (RunTerm (OperandPiece no_prefixs b) ps) e = base_no_arrow b e
term_no_arrow (RunTerm (OperandPiece (more_prefixs v vs) b) ps) e = cc

term_no_adjectives : (x : TermData) → term_kind x ≡ kinds.Adjectives → ⊥
term_no_adjectives (RunTerm (FunctorPiece w n) ps) e = cc
term_no_adjectives (RunTerm (OperandPiece no_prefixs b) ps) e = base_no_adjectives b e
term_no_adjectives (RunTerm (OperandPiece (more_prefixs v vs) b) ps) e = cc

pub only_arrow : (x : RegisteredTree) → kind_of x ≡ kinds.Arrow → IsRegistered x → (k : ImpliedTree) × implied_form.IsTree k × (x ≡ of_implied k)
only_arrow (registereds.Implied a) e is = (a, is, refl)
only_arrow (registereds.Adjectives a b) e is = absurd (adjective_no_arrow a.first e)
only_arrow (registereds.Term a b) e is = absurd (term_no_arrow a e)

pub only_adjectives : (x : RegisteredTree) → kind_of x ≡ kinds.Adjectives → IsRegistered x → (k : adjectives_first.Tree) × adjectives_first.IsTree k × (x ≡ of_adjectives k)
only_adjectives (registereds.Implied a) e is = cc
only_adjectives (registereds.Adjectives a b) e is = ((a, b), is, refl)
only_adjectives (registereds.Term a b) e is = absurd (term_no_adjectives a e)

pub only_term : (x : RegisteredTree) → kind_of x ≡ kinds.Term → IsRegistered x → (k : term_first.Tree) × term_first.IsTree k × (x ≡ of_term k)
only_term (registereds.Implied a) e is = cc
only_term (registereds.Adjectives a b) e is = absurd (adjective_no_term a.first e)
only_term (registereds.Term a b) e is = ((a, b), is, refl)

-- terms in parentheses that begin adjectives, or a term
group_adjectives : (x : AdjectivesData) (b : BehindTree) → adjective_kind x.first ≡ kinds.Group → AreSomeAdjectives false x → IsBehind b → (k : group_form.Tree) × group_form.IsTree k × (registereds.Adjectives x b ≡ of_group k)
group_adjectives x b e is isb = go x.first e is.0
  where
    go : (y : AdjectiveData) → adjective_kind y ≡ kinds.Group → IsAdjective false y → (k : group_form.Tree) × group_form.IsTree k × (registereds.Adjectives (record { first = y; more = x.more }) b ≡ of_group k)
    go (PlainAdjective o w) f isy = cc
    go (WithIdentifierAdjective o v w) f isy = cc
    go (WithTermsAdjective (Some r) p ts q w) f isy = cc
    go (WithTermsAdjective None p ts q w) f isy =
        let l = only_listed false x.more is.1 in
        (((p, (ts, q)), attributed w l.0 b), ((tt, (isy, tt)), (tt, (l.1, isb))), ap (λ z. registereds.Adjectives (record { first = WithTermsAdjective None p ts q w; more = z }) b) l.2)

base_group : (b : BaseData) → base_kind b ≡ kinds.Group → (p : Place) × (ts : TermsData) × (q : Place) × (b ≡ GroupBase p ts q)
base_group (GroupBase p ts q) e = (p, ts, q, refl)
base_group _ e = cc

group_term : (x : TermData) (a : AssignedTree) → term_kind x ≡ kinds.Group → IsTerm false x → IsAssigned a → (k : group_form.Tree) × group_form.IsTree k × (registereds.Term x a ≡ of_group k)
group_term (RunTerm (FunctorPiece w n) ps) a e is isa = cc
group_term (RunTerm (OperandPiece (more_prefixs v vs) b) ps) a e is isa = cc
group_term (RunTerm (OperandPiece no_prefixs b) ps) a e is isa = go b e is
  where
    go : (b : BaseData) → base_kind b ≡ kinds.Group → IsTerm false (RunTerm (OperandPiece no_prefixs b) ps) → (k : group_form.Tree) × group_form.IsTree k × (registereds.Term (RunTerm (OperandPiece no_prefixs b) ps) a ≡ of_group k)
    go (GroupBase p ts q) f i = (((p, (ts, q)), continued ps a), ((tt, (i.0.2, tt)), (i.1, isa)), refl)
    go _ f i = cc

pub only_group : (x : RegisteredTree) → kind_of x ≡ kinds.Group → IsRegistered x → (k : group_form.Tree) × group_form.IsTree k × (x ≡ of_group k)
only_group (registereds.Implied a) e is = cc
only_group (registereds.Adjectives a b) e is = group_adjectives a b e is.0 is.1
only_group (registereds.Term a b) e is = group_term a b e is.0 is.1

-- A group with what stands behind it is spelled as what it begins.
append-regroup : {X : Type 0} (a l b : List X) (q w : X) → ((a ++ (q ∷ (w ∷ []))) ++ l) ++ b ≡ (a ++ q ∷ []) ++ (w ∷ (l ++ b))
append-regroup a l b q w = append_assoc (a ++ (q ∷ (w ∷ []))) l b ∙ (append_assoc a (q ∷ (w ∷ [])) (l ++ b) ∙ sym (append_assoc a (q ∷ []) (w ∷ (l ++ b))))

pub group_spells : (k : group_form.Tree) → spell_registered (of_group k) ≡ group_form.spell k
group_spells (k, attributed w ads b) =
    ap (λ z. fixed signs.Open k.0 ∷ (((spell_terms k.1.0 ++ (fixed signs.Close k.1.1 ∷ (named signs.Attribute w ∷ []))) ++ z) ++ spell_behind b)) (list_spells false ads)
    ∙ ap (λ z. fixed signs.Open k.0 ∷ z) (append-regroup (spell_terms k.1.0) ((adjective_list_form false).spell ads) (spell_behind b) (fixed signs.Close k.1.1) (named signs.Attribute w))
group_spells (k, continued ps a) = ap (λ z. fixed signs.Open k.0 ∷ z) (append_assoc (spell_terms k.1.0 ++ fixed signs.Close k.1.1 ∷ []) (spell_piece_list ps) (spell_assigned a))

pub group_levels : (k : group_form.Tree) → levels_registered (of_group k) ≡ group_form.levels k
group_levels (k, attributed w ads b) =
    ap (λ z. 1 ∷ (((map suc (levels_terms k.1.0) ++ (0 ∷ (0 ∷ []))) ++ z) ++ levels_behind b)) (list_levels false ads)
    ∙ ap (λ z. 1 ∷ z) (append-regroup (map suc (levels_terms k.1.0)) ((adjective_list_form false).levels ads) (levels_behind b) 0 0)
group_levels (k, continued ps a) = ap (λ z. 1 ∷ z) (append_assoc (map suc (levels_terms k.1.0) ++ 0 ∷ []) (levels_piece_list ps) (levels_assigned a))

pub group_into : (k : group_form.Tree) → group_form.IsTree k → IsRegistered (of_group k)
group_into (k, attributed w ads b) is = ((is.0.1.0, list_into false ads is.1.1.0), is.1.1.1)
group_into (k, continued ps a) is = (((tt, tt, is.0.1.0, tt), is.1.0), is.1.1)

-- What the kind says of the first token.
if_arrow : (p : Bool) (k : ClusterKind) → (if p then kinds.Arrow else k) ≡ kinds.Arrow → (k ≡ kinds.Arrow → ⊥) → p ≡ true
if_arrow true k e h = refl
if_arrow false k e h = absurd (h e)

behind_no_arrow : (s : Sign) → kind_behind s ≡ kinds.Arrow → ⊥
behind_no_arrow signs.Attribute e = cc
behind_no_arrow _ e = cc

second_no_arrow : (rest : List MarkedToken) → second_kind rest ≡ kinds.Arrow → ⊥
second_no_arrow [] e = cc
second_no_arrow (n ∷ rest) e = behind_no_arrow (sign_of n) e

first_no_arrow : (s : Sign) (rest : List MarkedToken) → first_kind s rest ≡ kinds.Arrow → ⊥
first_no_arrow signs.Non rest e = cc
first_no_arrow signs.Attribute rest e = cc
first_no_arrow signs.Identifier rest e = second_no_arrow rest e
first_no_arrow signs.Open rest e = cc
first_no_arrow _ rest e = cc

behind_no_group : (s : Sign) → kind_behind s ≡ kinds.Group → ⊥
behind_no_group signs.Attribute e = cc
behind_no_group _ e = cc

second_no_group : (rest : List MarkedToken) → second_kind rest ≡ kinds.Group → ⊥
second_no_group [] e = cc
second_no_group (n ∷ rest) e = behind_no_group (sign_of n) e

first_group : (s : Sign) (rest : List MarkedToken) → first_kind s rest ≡ kinds.Group → s ≡ signs.Open
first_group signs.Non rest e = cc
first_group signs.Attribute rest e = cc
first_group signs.Identifier rest e = absurd (second_no_group rest e)
first_group signs.Open rest e = refl
first_group _ rest e = cc

-- without an arrow
if_else : (p : Bool) (k z : ClusterKind) → (if p then kinds.Arrow else k) ≡ z → (z ≡ kinds.Arrow → ⊥) → (p ≡ false) × (k ≡ z)
if_else true k z e h = absurd (h (sym e))
if_else false k z e h = (refl, e)

-- The kind of what begins with a `->` or a parenthesis doesn't hang on what comes behind it.
arrow_kind : (t : MarkedToken) (rest more : List MarkedToken) → cluster_kind (t ∷ rest) ≡ kinds.Arrow → cluster_kind (t ∷ more) ≡ kinds.Arrow
arrow_kind t rest more h = ap (λ z. (if z then kinds.Arrow else first_kind (sign_of t) more)) (if_arrow (is_arrow t) (first_kind (sign_of t) rest) h (λ e. first_no_arrow (sign_of t) rest e))

group_kind : (t : MarkedToken) (rest more : List MarkedToken) → cluster_kind (t ∷ rest) ≡ kinds.Group → cluster_kind (t ∷ more) ≡ kinds.Group
group_kind t rest more h =
    let k = if_else (is_arrow t) (first_kind (sign_of t) rest) kinds.Group h (λ e. cc) in
    ap (λ z. (if z then kinds.Arrow else first_kind (sign_of t) more)) k.0 ∙ ap (λ z. first_kind z more) (first_group (sign_of t) rest k.1)

at_head : (b : List MarkedToken) (x : RegisteredTree) → IsRegistered x → Agrees b (spell_registered x) → (t : MarkedToken) × (rest : List MarkedToken) × (m : List MarkedToken) × (b ≡ t ∷ rest) × (spell_registered x ≡ t ∷ m)
at_head b x is g = let k = headed b (spell_registered x) g (λ e. registered_filled x is e) in go b k.0 k.1 k.2 k.3
  where
    go : (b : List MarkedToken) (t : MarkedToken) (m : List MarkedToken) → spell_registered x ≡ t ∷ m → Agrees b (t ∷ m) → (t : MarkedToken) × (rest : List MarkedToken) × (m : List MarkedToken) × (b ≡ t ∷ rest) × (spell_registered x ≡ t ∷ m)
    go [] t m e f = absurd f
    go (s ∷ b) t m e f = (s, b, m, refl, e ∙ ap (λ z. z ∷ m) f)

-- A cluster whose kind the first token tells.
by_kind : (z : ClusterKind) (b : List MarkedToken) → ((t : MarkedToken) (rest more : List MarkedToken) → cluster_kind (t ∷ rest) ≡ z → cluster_kind (t ∷ more) ≡ z) → cluster_kind b ≡ z → (x : RegisteredTree) → IsRegistered x → Agrees b (spell_registered x) → kind_of x ≡ z
by_kind z b always h x is g =
    let k = at_head b x is g in
    let C : List MarkedToken → Type 0 = λ y. cluster_kind y ≡ z in
    let A : List MarkedToken → Type 0 = λ y. Agrees y k.2 in
    sym (kind_told x k.0 k.2 k.2 is k.4 (subst A (append_nil k.2) (agrees_self k.2 []))) ∙ always k.0 k.1 k.2 (subst C k.3 h)

pub as_arrow : (b : List MarkedToken) → cluster_kind b ≡ kinds.Arrow → Reshapes registered_form implied_form of_implied b
as_arrow b h = record {
  into = λ k is. is;
  spells = λ k is. refl;
  only = λ x is g. only_arrow x (by_kind kinds.Arrow b arrow_kind h x is g) is;
  goes = λ k t is g. g;
  level = λ k is. refl;
}

pub as_group : (b : List MarkedToken) → cluster_kind b ≡ kinds.Group → Reshapes registered_form group_form of_group b
as_group b h = record {
  into = λ k is. group_into k is;
  spells = λ k is. group_spells k;
  only = λ x is g. only_group x (by_kind kinds.Group b group_kind h x is g) is;
  goes = λ k t is g. absurd (ends_group.closed k t is g);
  level = λ k is. group_levels k;
}

pub ends_adjectives : Ends adjectives_first
ends_adjectives = ends_then (adjectives_form false) (λ _. behind_form) (λ _. record { filled = λ x is e. behind_filled x is e; closed = λ x t is g. never g })

pub ends_term : Ends term_first
ends_term = ends_then (term_form false) (λ _. assigned_form) (λ _. record { filled = λ x is e. cc; closed = λ x t is g. never g })

-- Adjectives.
adjective_level : (x : AdjectiveData) (ls : List ℕ) → adjective_kind x ≡ kinds.Adjectives → get_or (levels_adjective x ++ ls) 0 0 ≡ 0
adjective_level (PlainAdjective None w) ls e = refl
adjective_level (PlainAdjective (Some p) w) ls e = refl
adjective_level (WithIdentifierAdjective None v w) ls e = refl
adjective_level (WithIdentifierAdjective (Some p) v w) ls e = refl
adjective_level (WithTermsAdjective None p ts q w) ls e = cc
adjective_level (WithTermsAdjective (Some r) p ts q w) ls e = refl

-- the kind of adjectives that begin with the token, as far as it tells
open_kind : (x : AdjectiveData) → (adjective_kind x ≡ kinds.Adjectives) ⊎ (adjective_kind x ≡ kinds.Group)
open_kind (PlainAdjective o w) = inl refl
open_kind (WithIdentifierAdjective o v w) = inl refl
open_kind (WithTermsAdjective None p ts q w) = inr refl
open_kind (WithTermsAdjective (Some r) p ts q w) = inl refl

sign_of-group_head : (x : AdjectiveData) (v : List MarkedToken) (t : MarkedToken) → adjective_kind x ≡ kinds.Group → Agrees (t ∷ []) (spell_adjective x ++ v) → sign_of t ≡ signs.Open
sign_of-group_head (PlainAdjective o w) v t e g = cc
sign_of-group_head (WithIdentifierAdjective o u w) v t e g = cc
sign_of-group_head (WithTermsAdjective (Some r) p ts q w) v t e g = cc
sign_of-group_head (WithTermsAdjective None p ts q w) v t e g = sym (ap sign_of g) ∙ sign_of-fixed signs.Open p refl

first_adjectives : (s : Sign) (rest : List MarkedToken) → first_kind s rest ≡ kinds.Adjectives → s ≡ signs.Open → ⊥
first_adjectives signs.Open rest e f = cc
first_adjectives _ rest e f = cc

adjectives_level : (t : MarkedToken) (rest : List MarkedToken) (k : adjectives_first.Tree) → cluster_kind (t ∷ rest) ≡ kinds.Adjectives → Agrees (t ∷ []) (adjectives_first.spell k) → get_or (adjectives_first.levels k) 0 0 ≡ 0
adjectives_level t rest k h g =
    let L : List ℕ → Type 0 = λ z. get_or z 0 0 ≡ 0 in
    let A : List MarkedToken → Type 0 = λ z. Agrees (t ∷ []) z in
    let s : Agrees (t ∷ []) (spell_adjective k.0.first ++ (spell_adjective_list k.0.more ++ spell_behind k.1)) = subst A (append_assoc (spell_adjective k.0.first) (spell_adjective_list k.0.more) (spell_behind k.1)) g in
    subst L (sym (append_assoc (levels_adjective k.0.first) (levels_adjective_list k.0.more) (levels_behind k.1))) (adjective_level k.0.first _ (go (open_kind k.0.first) s))
  where
    go : (adjective_kind k.0.first ≡ kinds.Adjectives) ⊎ (adjective_kind k.0.first ≡ kinds.Group) → Agrees (t ∷ []) (spell_adjective k.0.first ++ (spell_adjective_list k.0.more ++ spell_behind k.1)) → adjective_kind k.0.first ≡ kinds.Adjectives
    go (inl e) s = e
    go (inr e) s = absurd (first_adjectives (sign_of t) rest (if_else (is_arrow t) (first_kind (sign_of t) rest) kinds.Adjectives h (λ f. cc)).1 (sign_of-group_head k.0.first _ t e s))

head_as : (F : Form MarkedToken) (build : F.Tree → RegisteredTree) (k : F.Tree) (x : RegisteredTree) (t : MarkedToken) (more : List MarkedToken) → spell_registered (build k) ≡ F.spell k → x ≡ build k → spell_registered x ≡ t ∷ more → Agrees (t ∷ []) (F.spell k)
head_as F build k x t more same f e = let A : List MarkedToken → Type 0 = λ z. Agrees (t ∷ []) z in subst A (sym e ∙ (ap spell_registered f ∙ same)) refl

begun_adjectives : (t : MarkedToken) (rest : List MarkedToken) → cluster_kind (t ∷ rest) ≡ kinds.Adjectives → Begun adjectives_first t
begun_adjectives t rest h = go (sign_of t) refl (if_else (is_arrow t) (first_kind (sign_of t) rest) kinds.Adjectives h (λ f. cc)).1
  where
    go : (s : Sign) → sign_of t ≡ s → first_kind s rest ≡ kinds.Adjectives → Begun adjectives_first t
    go signs.Non e f = ((record { first = PlainAdjective (Some t.token.place) (word_at nowhere); more = no_adjectives }, some_behind), named signs.Attribute (word_at nowhere) ∷ spell_behind some_behind, ((tt, tt), (tt, tt)), ap (λ z. z ∷ (named signs.Attribute (word_at nowhere) ∷ spell_behind some_behind)) (sym (told_fixed signs.Non t refl e)))
    go signs.Attribute e f = ((record { first = PlainAdjective None (word_of t); more = no_adjectives }, some_behind), spell_behind some_behind, ((tt, tt), (tt, tt)), ap (λ z. z ∷ spell_behind some_behind) (sym (told_named signs.Attribute t refl e)))
    go signs.Identifier e f = ((record { first = WithIdentifierAdjective None (word_of t) (word_at nowhere); more = no_adjectives }, some_behind), named signs.Attribute (word_at nowhere) ∷ spell_behind some_behind, ((tt, tt), (tt, tt)), ap (λ z. z ∷ (named signs.Attribute (word_at nowhere) ∷ spell_behind some_behind)) (sym (told_named signs.Identifier t refl e)))
    go signs.Open e f = cc
    go _ e f = cc

pub looks_adjectives : (t : MarkedToken) (rest : List MarkedToken) → cluster_kind (t ∷ rest) ≡ kinds.Adjectives → Looks registered_form (begun adjectives_first t) of_adjectives t rest
looks_adjectives t rest h = record {
  into = λ k is. is.0;
  spells = λ k is. refl;
  only = λ x more is e agrees.
      let k = only_adjectives x (sym (kind_told x t rest more is e agrees) ∙ h) is in
      (k.0, (k.1, head_as adjectives_first of_adjectives k.0 x t more refl k.2 e), k.2);
  empty = λ x is e. absurd (registered_filled x is e);
  filled = λ k is e. ends_adjectives.filled k is.0 e;
  goes = λ k s is g. absurd (ends_adjectives.closed k s is.0 g);
  level = λ k is. refl;
  first = λ k is. adjectives_level t rest k h is.1;
  begins = let some = begun_adjectives t rest h in (some.0, some.1, (some.2, at (adjectives_first.spell some.0) some.1 some.3), some.3);
}
  where
    at : (w m : List MarkedToken) → w ≡ t ∷ m → Agrees (t ∷ []) w
    at w m e = let A : List MarkedToken → Type 0 = λ z. Agrees (t ∷ []) z in subst A (sym e) refl

pub begin_adjectives : (room : ℕ) (b : List MarkedToken) → cluster_kind b ≡ kinds.Adjectives → Leads registered_form adjectives_first room of_adjectives b b
begin_adjectives room [] h = cc
begin_adjectives room (t ∷ rest) h =
    leads_on registered_form (begun adjectives_first t) adjectives_first room of_adjectives (λ k. k) (t ∷ rest) (t ∷ rest) (t ∷ rest)
    (leads_look registered_form (begun adjectives_first t) of_adjectives t rest (looks_adjectives t rest h) room (t ∷ rest) refl)
    (leads_begun adjectives_first t (begun_adjectives t rest h) rest room (t ∷ rest) refl)

-- Terms that begin with an identifier.
term_level : (t : MarkedToken) (x : TermData) (v : List MarkedToken) (ls : List ℕ) → IsTerm false x → sign_of t ≡ signs.Identifier → Agrees (t ∷ []) (spell_term x ++ v) → get_or (levels_term x ++ ls) 0 0 ≡ 0
term_level t (RunTerm (FunctorPiece w n) ps) v ls is h g = refl
term_level t (RunTerm (OperandPiece (more_prefixs (SelectorPrefix p w q) vs) b) ps) v ls is h g = refl
term_level t (RunTerm (OperandPiece (more_prefixs (ChoiceOfPrefix p u w q x) vs) b) ps) v ls is h g = absurd is.0.1
term_level t (RunTerm (OperandPiece (more_prefixs (ChoiceOverPrefix p u w q x) vs) b) ps) v ls is h g = absurd is.0.1
term_level t (RunTerm (OperandPiece no_prefixs b) ps) v ls is h g = go b is.0.2 g
  where
    opened : (s : Sign) (m : MarkedToken) → m ≡ t → sign_of m ≡ s → (s ≡ signs.Identifier → ⊥) → ⊥
    opened s m e f differ = differ (sym f ∙ (ap sign_of e ∙ h))

    go : (b : BaseData) → IsBase false b → Agrees (t ∷ []) (spell_term (RunTerm (OperandPiece no_prefixs b) ps) ++ v) → get_or (levels_term (RunTerm (OperandPiece no_prefixs b) ps) ++ ls) 0 0 ≡ 0
    go (IdentifierBase w) i a = refl
    go (SubjectBase p) i a = refl
    go (ArgumentBase p n) i a = refl
    go (GroupBase p ts q) i a = absurd (opened signs.Open (fixed signs.Open p) a (sign_of-fixed signs.Open p refl) (λ f. cc))
    go (CallBase w p q) i a = refl
    go (CallWithBase w p ts q) i a = refl
    go (SelectorBase p w) i a = refl
    go (AggregateBase w p ts q) i a = refl
    go (BracketsBase p ts q) i a = absurd (opened signs.LeftBracket (named signs.LeftBracket p) a (sign_of-named signs.LeftBracket p refl) (λ f. cc))
    go (BracesBase p ts q) i a = absurd (opened signs.OpenBrace (fixed signs.OpenBrace p) a (sign_of-fixed signs.OpenBrace p refl) (λ f. cc))
    go (SquaresBase p ts q) i a = absurd (opened signs.OpenSquare (fixed signs.OpenSquare p) a (sign_of-fixed signs.OpenSquare p refl) (λ f. cc))
    go (SetOfBase x1 x2 x3 x4 x5 x6 x7 x8 x9) i a = absurd i
    go (ChoiceBase x1 x2 x3) i a = absurd i
    go (ChoiceStructureBase x1 x2 x3) i a = absurd i

begun_term : (t : MarkedToken) → sign_of t ≡ signs.Identifier → Begun term_first t
begun_term t h = ((RunTerm (OperandPiece no_prefixs (IdentifierBase (word_of t))) no_pieces, some_assigned), spell_assigned some_assigned, (((tt, tt, tt, tt), tt), ((tt, tt), tt)), ap (λ z. z ∷ spell_assigned some_assigned) (sym (told_named signs.Identifier t refl h)))

pub looks_term : (t : MarkedToken) (rest : List MarkedToken) → sign_of t ≡ signs.Identifier → cluster_kind (t ∷ rest) ≡ kinds.Term → Looks registered_form (begun term_first t) of_term t rest
looks_term t rest i h = record {
  into = λ k is. is.0;
  spells = λ k is. refl;
  only = λ x more is e agrees.
      let k = only_term x (sym (kind_told x t rest more is e agrees) ∙ h) is in
      (k.0, (k.1, head_as term_first of_term k.0 x t more refl k.2 e), k.2);
  empty = λ x is e. absurd (registered_filled x is e);
  filled = λ k is e. ends_term.filled k is.0 e;
  goes = λ k s is g. absurd (ends_term.closed k s is.0 g);
  level = λ k is. refl;
  first = λ k is. term_level t k.0 _ _ is.0.0 i is.1;
  begins = let some = begun_term t i in (some.0, some.1, (some.2, at (term_first.spell some.0) some.1 some.3), some.3);
}
  where
    at : (w m : List MarkedToken) → w ≡ t ∷ m → Agrees (t ∷ []) w
    at w m e = let A : List MarkedToken → Type 0 = λ z. Agrees (t ∷ []) z in subst A (sym e) refl

-- Other terms: the first token begins no adjectives.
other_adjective : (s : Sign) (rest : List MarkedToken) → first_kind s rest ≡ kinds.Term → begins_adjective s ≡ true → s ≡ signs.Identifier
other_adjective signs.Non rest e f = cc
other_adjective signs.Attribute rest e f = cc
other_adjective signs.Open rest e f = cc
other_adjective signs.Identifier rest e f = refl
other_adjective _ rest e f = cc

abbrev Head : List MarkedToken → RegisteredTree → Type 0
Head b x = (t : MarkedToken) × (rest : List MarkedToken) × (m : List MarkedToken) × (b ≡ t ∷ rest) × (spell_registered x ≡ t ∷ m)

as_other : (b : List MarkedToken) → cluster_kind b ≡ kinds.Term → ((t : MarkedToken) (rest : List MarkedToken) → b ≡ t ∷ rest → sign_of t ≡ signs.Identifier → ⊥) → Reshapes registered_form term_first of_term b
as_other b h differ = record {
  into = λ k is. is;
  spells = λ k is. refl;
  only = λ x is g. only x is (at_head b x is g);
  goes = λ k t is g. absurd (ends_term.closed k t is g);
  level = λ k is. refl;
}
  where
    told : (t : MarkedToken) (rest : List MarkedToken) → b ≡ t ∷ rest → (is_arrow t ≡ false) × (first_kind (sign_of t) rest ≡ kinds.Term)
    told t rest e = let C : List MarkedToken → Type 0 = λ y. cluster_kind y ≡ kinds.Term in if_else (is_arrow t) (first_kind (sign_of t) rest) kinds.Term (subst C e h) (λ f. cc)

    only : (x : RegisteredTree) → IsRegistered x → Head b x → (k : term_first.Tree) × term_first.IsTree k × (x ≡ of_term k)
    only (registereds.Implied a) is k = absurd (true_not_false (is_arrow k.0) (told k.0 k.1 k.3).0 (ap is_arrow (sym (head_of _ _ _ _ k.4)) ∙ arrow_own a.arrow))
    only (registereds.Adjectives a c) is k = absurd (differ k.0 k.1 k.3 (other_adjective (sign_of k.0) k.1 (told k.0 k.1 k.3).1 (adjective_first a.first _ k.0 k.2 (sym (append_assoc (spell_adjective a.first) (spell_adjective_list a.more) (spell_behind c)) ∙ k.4))))
    only (registereds.Term a c) is k = ((a, c), is, refl)

pub begin_term : (room : ℕ) (b : List MarkedToken) → cluster_kind b ≡ kinds.Term → Leads registered_form term_first room of_term b b
begin_term room [] h = leads_as registered_form term_first of_term room [] (as_other [] h (λ t rest e. cc))
begin_term room (t ∷ rest) h = go (is_identifier (sign_of t)) refl
  where
    go : (i : Bool) → is_identifier (sign_of t) ≡ i → Leads registered_form term_first room of_term (t ∷ rest) (t ∷ rest)
    go true e =
        leads_on registered_form (begun term_first t) term_first room of_term (λ k. k) (t ∷ rest) (t ∷ rest) (t ∷ rest)
        (leads_look registered_form (begun term_first t) of_term t rest (looks_term t rest (identifier_is (sign_of t) e) h) room (t ∷ rest) refl)
        (leads_begun term_first t (begun_term t (identifier_is (sign_of t) e)) rest room (t ∷ rest) refl)
    go false e = leads_as registered_form term_first of_term room (t ∷ rest) (as_other (t ∷ rest) h (λ s r f g. true_not_false (is_identifier (sign_of t)) e (ap is_identifier (ap sign_of (head_of _ _ _ _ f) ∙ g))))

-- What a reading behind `cluster` gives.
pub gives_arrow : (room : ℕ) (b after : List MarkedToken) (e : Refusal) → cluster_kind b ≡ kinds.Arrow → Refuses implied_form room b e after → Refuses registered_form room b e after
gives_arrow room b after e h r = shaped_refused registered_form implied_form of_implied room b (as_arrow b h) after e r

pub gives_adjectives : (room : ℕ) (b : List MarkedToken) (r : Result RegisteredTree Refusal) (after : List MarkedToken) → cluster_kind b ≡ kinds.Adjectives → ReadsAdjectives room b r after → Reads registered_form room plainly b r after
gives_adjectives room b (Ok x) after h f = let F : RegisteredTree → Type 0 = λ z. Found registered_form room b z after in subst F (sym f.2) ((begin_adjectives room b h).finds f.0 after f.1)
gives_adjectives room b (Err e) after h f = passes registered_form adjectives_first room of_adjectives b b after e (begin_adjectives room b h) f

pub gives_group : (room : ℕ) (b : List MarkedToken) (r : Result RegisteredTree Refusal) (after : List MarkedToken) → cluster_kind b ≡ kinds.Group → ReadsGroup room b r after → Reads registered_form room plainly b r after
gives_group room b (Ok x) after h f = let F : RegisteredTree → Type 0 = λ z. Found registered_form room b z after in subst F (sym f.2) (shaped_found registered_form group_form of_group room b (as_group b h) f.0 after f.1)
gives_group room b (Err e) after h f = shaped_refused registered_form group_form of_group room b (as_group b h) after e f

pub gives_term : (room : ℕ) (b : List MarkedToken) (r : Result RegisteredTree Refusal) (after : List MarkedToken) → cluster_kind b ≡ kinds.Term → ReadsTerm room b r after → Reads registered_form room plainly b r after
gives_term room b (Ok x) after h f = let F : RegisteredTree → Type 0 = λ z. Found registered_form room b z after in subst F (sym f.2) ((begin_term room b h).finds f.0 after f.1)
gives_term room b (Err e) after h f = passes registered_form term_first room of_term b b after e (begin_term room b h) f

-- Clusters.
abbrev pub cluster_1 : Form MarkedToken
cluster_1 = (then) (word_form (codes "cluster")) (λ _. registered_form)

abbrev pub make_cluster : (Place × RegisteredTree) → ClusterTree
make_cluster k = cluster_of k.0 k.1

pub joined_cluster : Joined (word_form (codes "cluster")) (λ _. registered_form)
joined_cluster = record { apart = apart_closed (word_form (codes "cluster")) (λ _. registered_form) (λ a t. refl); some = λ a is. (registereds.Implied some_implied, ((tt, tt), tt)) }

abbrev existential_with : ExistentialTree → Option Place → ClusterTree
existential_with a o = clusters.Existential (record { cluster = a.cluster; adjectives = a.adjectives; for_ = o; ty = a.ty; semicolon = a.semicolon })

only_existential : (a : ExistentialTree) (o : Option Place) → IsCluster (existential_with a o) → (k : cluster_1.Tree) × cluster_1.IsTree k × (existential_with a o ≡ make_cluster k)
only_existential a None i = ((a.cluster, registereds.Adjectives a.adjectives (behinds.Type a.ty a.semicolon)), (tt, (i.0, (i.1, i.2))), refl)
only_existential a (Some p) i = ((a.cluster, registereds.Adjectives a.adjectives (behinds.For (record { for_ = p; ty = a.ty }) a.semicolon)), (tt, (i.0, i.1)), refl)

abbrev implied_part : ConditionalTree → ImpliedTree
implied_part a = record { arrow = a.arrow; adjectives = a.adjectives; for_type = a.for_type; semicolon = a.semicolon }

abbrev conditional_with : ConditionalTree → Option AdjectivesData → ClusterTree
conditional_with a o = clusters.Conditional (record { cluster = a.cluster; premises = o; arrow = a.arrow; adjectives = a.adjectives; for_type = a.for_type; semicolon = a.semicolon })

only_conditional : (a : ConditionalTree) (o : Option AdjectivesData) → IsCluster (conditional_with a o) → (k : cluster_1.Tree) × cluster_1.IsTree k × (conditional_with a o ≡ make_cluster k)
only_conditional a None i = ((a.cluster, registereds.Implied (implied_part a)), (tt, (i.1, i.2)), refl)
only_conditional a (Some x) i = ((a.cluster, registereds.Adjectives x (behinds.Implied (implied_part a))), (tt, (i.0, (i.1, i.2))), refl)

pub only_cluster : (x : ClusterTree) → IsCluster x → (k : cluster_1.Tree) × cluster_1.IsTree k × (x ≡ make_cluster k)
only_cluster (clusters.Existential a) is = only_existential a a.for_ is
only_cluster (clusters.Conditional a) is = only_conditional a a.premises is
only_cluster (clusters.Functorial a) is = ((a.cluster, registereds.Term a.term (record { arrow = a.arrow; adjectives = a.adjectives; for_type = a.for_type; semicolon = a.semicolon })), (tt, (is.0, (is.1, is.2))), refl)
only_cluster (clusters.Reduce a) is = absurd is
only_cluster (clusters.Identify a) is = absurd is

cluster_into : (k : cluster_1.Tree) → cluster_1.IsTree k → IsCluster (make_cluster k)
cluster_into (p, registereds.Implied a) is = (tt, is.1.0, is.1.1)
cluster_into (p, registereds.Adjectives a (behinds.Type t q)) is = (is.1.0, is.1.1.0, is.1.1.1)
cluster_into (p, registereds.Adjectives a (behinds.For t q)) is = (is.1.0, is.1.1, tt)
cluster_into (p, registereds.Adjectives a (behinds.Implied b)) is = (is.1.0, is.1.1.0, is.1.1.1)
cluster_into (p, registereds.Term a b) is = (is.1.0, is.1.1.0, is.1.1.1)

-- lists that group to the left
append-four : {X : Type 0} (v w x y : List X) → ((v ++ w) ++ x) ++ y ≡ v ++ (w ++ (x ++ y))
append-four v w x y = append_assoc (v ++ w) x y ∙ append_assoc v w (x ++ y)

abbrev word_at_front : Place → List MarkedToken → List MarkedToken
word_at_front p w = word_token (codes "cluster") p ∷ w

pub cluster_spells : (k : cluster_1.Tree) → spell_cluster (make_cluster k) ≡ cluster_1.spell k
cluster_spells (p, registereds.Implied a) = ap (word_at_front p) (append-four [] (arrow_token a.arrow ∷ spell_adjectives a.adjectives) (spell_for_type a.for_type) (key keywords.Semicolon a.semicolon ∷ []))
cluster_spells (p, registereds.Adjectives a (behinds.Type t q)) = ap (word_at_front p) (append-four (spell_adjectives a) [] (spell_type t) (key keywords.Semicolon q ∷ []))
cluster_spells (p, registereds.Adjectives a (behinds.For t q)) = ap (word_at_front p) (append-four (spell_adjectives a) (fixed signs.For t.for_ ∷ []) (spell_type t.ty) (key keywords.Semicolon q ∷ []))
cluster_spells (p, registereds.Adjectives a (behinds.Implied b)) = ap (word_at_front p) (append-four (spell_adjectives a) (arrow_token b.arrow ∷ spell_adjectives b.adjectives) (spell_for_type b.for_type) (key keywords.Semicolon b.semicolon ∷ []))
cluster_spells (p, registereds.Term a b) = ap (word_at_front p) (append-four (spell_term a) (arrow_token b.arrow ∷ spell_adjectives b.adjectives) (maybe spell_for_type b.for_type) (key keywords.Semicolon b.semicolon ∷ []))

abbrev level_at_front : List ℕ → List ℕ
level_at_front ls = 0 ∷ ls

cluster_levels : (k : cluster_1.Tree) → levels_cluster (make_cluster k) ≡ cluster_1.levels k
cluster_levels (p, registereds.Implied a) = ap level_at_front (append-four [] (0 ∷ levels_adjectives a.adjectives) (levels_for_type a.for_type) (0 ∷ []))
cluster_levels (p, registereds.Adjectives a (behinds.Type t q)) = ap level_at_front (append-four (levels_adjectives a) [] (levels_type t) (0 ∷ []))
cluster_levels (p, registereds.Adjectives a (behinds.For t q)) = ap level_at_front (append-four (levels_adjectives a) (0 ∷ []) (levels_type t.ty) (0 ∷ []))
cluster_levels (p, registereds.Adjectives a (behinds.Implied b)) = ap level_at_front (append-four (levels_adjectives a) (0 ∷ levels_adjectives b.adjectives) (levels_for_type b.for_type) (0 ∷ []))
cluster_levels (p, registereds.Term a b) = ap level_at_front (append-four (levels_term a) (0 ∷ levels_adjectives b.adjectives) (maybe levels_for_type b.for_type) (0 ∷ []))

ends_cluster : Ends cluster_1
ends_cluster = ends_then (word_form (codes "cluster")) (λ _. registered_form) (λ _. record { filled = λ x is e. registered_filled x is e; closed = λ x t is g. never g })

pub as_cluster : (b : List MarkedToken) → Reshapes cluster_form cluster_1 make_cluster b
as_cluster b = record {
  into = λ k is. cluster_into k is;
  spells = λ k is. cluster_spells k;
  only = λ x is g. only_cluster x is;
  goes = λ k t is g. absurd (ends_cluster.closed k t is g);
  level = λ k is. cluster_levels k;
}

abbrev behind_word : List MarkedToken
behind_word = spell_registered (registereds.Implied some_implied)

pub begun_cluster : (t : MarkedToken) → is_word (codes "cluster") t ≡ true → Begun cluster_form t
begun_cluster t h = (clusters.Conditional (conditional_of t.token.place None some_implied), behind_word, (tt, (tt, tt), tt), ap (λ z. z ∷ behind_word) (sym (word_told (codes "cluster") t h)))

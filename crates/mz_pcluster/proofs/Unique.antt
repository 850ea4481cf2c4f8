-- Two clusters that spell the same tokens are equal.
use Rattle.std.specs.Prelude.{codes}
use Rattle.std.proofs.Common.{◌≡◌, ℕ, true, false, List, [], ◌∷◌, ◌++◌, arith, refl, sym, ap, subst, ◌∙◌}
use Rattle.mz_base.specs.declared.place.Place.{Place}
use Rattle.mz_base.specs.declared.token.MarkedToken.{MarkedToken}
use Rattle.mz_forms.specs.Form.{Agrees, nested, then}
use Rattle.mz_forms.proofs.Choose.{agrees_self}
use Rattle.mz_forms.proofs.Compose.{head_of, tail_of}
use Rattle.mz_forms.proofs.Leads.{apart_closed}
use Rattle.mz_forms.proofs.One.{One, OneAt, at_as, at_same, one_as, one_class, one_from, one_nested, one_then}
use Rattle.mz_tree.specs.declared.word.Word.{Word}
use Rattle.mz_tree.specs.Rules.{last_of, start}
use Rattle.mz_pterm.specs.declared.sign.Sign.{Sign}
use Rattle.mz_pterm.specs.declared.sign.Sign.TheVariants as signs
use Rattle.mz_pterm.specs.Sign.{sign_of}
use Rattle.mz_pterm.specs.Words.{fixed, is_fixed, is_named, name, named, word}
use Rattle.mz_pterm.specs.Forms.{bracket, make_group, rest_of_term, term_form, terms_form, to_close}
use Rattle.mz_pterm.proofs.Bases.{terms_close}
use Rattle.mz_pterm.proofs.Signs.{same_fixed, same_named, sign_of-named}
use Rattle.mz_pterm.proofs.Unique.{terms_one}
use Rattle.mz_ptype.specs.Forms.{adjective_list_form, adjectives_form, whole_type}
use Rattle.mz_ptype.proofs.Unique.{adjectives_one, list_one, type_one}
use Rattle.mz_pjustification.specs.declared.keyword.Keyword.TheVariants as keywords
use Rattle.mz_pjustification.specs.Words.{keyword}
use Rattle.mz_pproposition.proofs.Unique.{keys}
use Rattle.mz_ppattern.specs.Words.{arrow_form, arrow_token, word_form, word_token}
use Rattle.mz_ppattern.proofs.OptionalSteps.{one_optional}
use Rattle.mz_ppattern.proofs.WordSteps.{arrow_same, word_same}
use Rattle.mz_pcluster.specs.Classes.{begins_for_type, is_attribute}
use Rattle.mz_pcluster.specs.Forms.{adjectives_first, assigned_form, attributed_form, bare_type_form, behind_form, behind_group_form, cluster_form, continued_form, for_type_form, group_form, implied_form, of_adjectives, of_group, of_term, optional_for_type, registered_form, spell_registered, term_first, attributed, continued, spell_behind_group, BehindGroup, Bracketed, IsBehindGroup, IsRegistered}
use Rattle.mz_pcluster.specs.Forms.{spell_behind, IsBehind}
use Rattle.mz_pcluster.specs.declared.kinds.ClusterKind.{ClusterKind}
use Rattle.mz_pcluster.specs.declared.kinds.ClusterKind.TheVariants as kinds
use Rattle.mz_pcluster.specs.declared.parts.BehindTree.{BehindTree}
use Rattle.mz_pcluster.specs.declared.parts.BehindTree.TheVariants as behinds
use Rattle.mz_pcluster.specs.declared.parts.RegisteredTree.{RegisteredTree}
use Rattle.mz_pcluster.proofs.ClusterSteps as steps
use Rattle.mz_pcluster.proofs.GroupSteps as groups
use Rattle.mz_pcluster.proofs.KindSteps.{kind_of, kind_told}
use Rattle.mz_pcluster.proofs.PartSteps as parts

words : (n : ℕ) (s : Sign) → is_fixed s ≡ true → One n (word s)
words n s h = one_class n Place (fixed s) (same_fixed s h)

names : (n : ℕ) (s : Sign) → is_named s ≡ true → One n (name s)
names n s h = one_class n Word (named s) (same_named s h)

arrow_one : (n : ℕ) → One n arrow_form
arrow_one n = one_class n Place arrow_token arrow_same

-- The parts.
for_type_one : (n : ℕ) → One n for_type_form
for_type_one n = one_as n for_type_form parts.for_type_1 parts.make_for_type parts.only_for_type (λ s is. refl) (λ s t is g. (parts.as_for_type []).goes s t is g)
    (one_then n n (word signs.For) (λ _. whole_type false) parts.joined_for_type.apart (words n signs.For refl) (λ a. type_one false n) (λ a l isa h. omega (arith, h)))

optional_one : (n : ℕ) → One n optional_for_type
optional_one n = one_optional for_type_form begins_for_type parts.starts_for_type n (for_type_one n)

implied_one : (n : ℕ) → One n implied_form
implied_one n = one_as n implied_form parts.implied_1 parts.make_implied parts.only_implied (λ s is. refl) (λ s t is g. (parts.as_implied []).goes s t is g)
    (one_then n n arrow_form (λ _. parts.implied_2) parts.joined_implied_1.apart (arrow_one n)
    (λ a. one_then n n (adjectives_form false) (λ _. parts.implied_3) parts.joined_implied_2.apart (adjectives_one false n) (λ a. one_then n n for_type_form (λ _. parts.implied_4) parts.joined_implied_3.apart (for_type_one n) (λ a. keys n keywords.Semicolon refl) (λ a l isa h. omega (arith, h))) (λ a l isa h. omega (arith, h)))
    (λ a l isa h. omega (arith, h)))

assigned_one : (n : ℕ) → One n assigned_form
assigned_one n = one_as n assigned_form parts.assigned_1 parts.make_assigned parts.only_assigned (λ s is. refl) (λ s t is g. (parts.as_assigned []).goes s t is g)
    (one_then n n arrow_form (λ _. parts.assigned_2) parts.joined_assigned_1.apart (arrow_one n)
    (λ a. one_then n n (adjectives_form false) (λ _. parts.assigned_3) parts.joined_assigned_2.apart (adjectives_one false n) (λ a. one_then n n optional_for_type (λ _. parts.assigned_4) parts.joined_assigned_3.apart (optional_one n) (λ a. keys n keywords.Semicolon refl) (λ a l isa h. omega (arith, h))) (λ a l isa h. omega (arith, h)))
    (λ a l isa h. omega (arith, h)))

bare_one : (n : ℕ) → One n bare_type_form
bare_one n = one_as n bare_type_form (whole_type false) (λ x. x) (λ x is. (x, is.0, refl)) (λ s is. refl) (λ s t is g. g) (type_one false n)

behind_type_one : (n : ℕ) → One n parts.behind_type
behind_type_one n = one_then n n bare_type_form (λ _. keyword keywords.Semicolon) parts.joined_behind_type.apart (bare_one n) (λ a. keys n keywords.Semicolon refl) (λ a l isa h. omega (arith, h))

behind_for_one : (n : ℕ) → One n parts.behind_for_type
behind_for_one n = one_then n n for_type_form (λ _. keyword keywords.Semicolon) parts.joined_behind_for.apart (for_type_one n) (λ a. keys n keywords.Semicolon refl) (λ a l isa h. omega (arith, h))

behind_at : (n : ℕ) (x : BehindTree) (tok : MarkedToken) (m : List MarkedToken) → IsBehind x → spell_behind x ≡ tok ∷ m → OneAt n behind_form tok
behind_at n (behinds.Type a p) tok m is e =
    let h = parts.type_token a p tok m is e in
    at_as n behind_form parts.behind_type parts.make_behind_type tok (parts.as_behind_type (tok ∷ []) h.0 h.1) (behind_type_one n)
behind_at n (behinds.For a p) tok m is e = at_as n behind_form parts.behind_for_type parts.make_behind_for tok (parts.as_behind_for (tok ∷ []) (parts.for_token a.for_ tok _ m e)) (behind_for_one n)
behind_at n (behinds.Implied a) tok m is e = at_as n behind_form implied_form parts.make_behind_implied tok (parts.as_behind_implied (tok ∷ []) (parts.arrow_comes a.arrow tok _ m e)) (implied_one n)

behind_one : (n : ℕ) → One n behind_form
behind_one n = one_from n behind_form (λ a b isa isb ea eb. absurd (parts.behind_filled a isa ea)) (λ a b tok m isa isb ea eb. absurd (parts.behind_filled a isa ea)) (λ a tok m isa e. behind_at n a tok m isa e)

-- Terms in parentheses, and what stands behind them.
parenthesis_one : (n : ℕ) → One n groups.parenthesis
parenthesis_one n = one_then n n (nested (word signs.Open)) (λ _. to_close false signs.Close) (apart_closed (nested (word signs.Open)) (λ _. to_close false signs.Close) (λ a t. refl)) (one_nested n (word signs.Open) (words n signs.Open refl))
    (λ a. one_then n n (nested (terms_form false)) (λ _. word signs.Close) (terms_close false signs.Close refl) (one_nested n (terms_form false) (terms_one false n).lists) (λ a. words n signs.Close refl) (λ a l isa h. omega (arith, h)))
    (λ a l isa h. omega (arith, h))

attributed_one : (n : ℕ) → One n attributed_form
attributed_one n = one_then n n (name signs.Attribute) (λ _. groups.attributed_2) groups.joined_attributed_1.apart (names n signs.Attribute refl)
    (λ a. one_then n n (adjective_list_form false) (λ _. behind_form) groups.joined_attributed_2.apart (list_one false n) (λ a. behind_one n) (λ a l isa h. omega (arith, h))) (λ a l isa h. omega (arith, h))

continued_one : (k : Bracketed) (n : ℕ) → One n (continued_form k)
continued_one k n = one_then n n (rest_of_term false (last_of start (make_group k))) (λ _. assigned_form) (groups.joined_continued k).apart ((terms_one false n).runs (last_of start (make_group k))) (λ a. assigned_one n) (λ a l isa h. omega (arith, h))

behind_group_at : (k : Bracketed) (n : ℕ) (x : BehindGroup) (tok : MarkedToken) (m : List MarkedToken) → IsBehindGroup k x → spell_behind_group x ≡ tok ∷ m → OneAt n (behind_group_form k) tok
behind_group_at k n (attributed w ads b) tok m is e = at_as n (behind_group_form k) attributed_form groups.put_attributed tok (groups.as_attributed k (tok ∷ []) (ap is_attribute (sym (ap sign_of (head_of _ _ _ _ e)) ∙ sign_of-named signs.Attribute w refl))) (attributed_one n)
behind_group_at k n (continued ps a) tok m is e = at_as n (behind_group_form k) (continued_form k) groups.put_continued tok (groups.as_continued k (tok ∷ []) (groups.continued_first (last_of start (make_group k)) ps a tok m is.0 e)) (continued_one k n)

behind_group_one : (k : Bracketed) (n : ℕ) → One n (behind_group_form k)
behind_group_one k n = one_from n (behind_group_form k) (λ a b isa isb ea eb. absurd (groups.behind_group_filled a ea)) (λ a b tok m isa isb ea eb. absurd (groups.behind_group_filled a ea)) (λ a tok m isa e. behind_group_at k n a tok m isa e)

group_one : (n : ℕ) → One n group_form
group_one n = one_then n n groups.parenthesis behind_group_form groups.joined_group.apart (parenthesis_one n) (λ a. behind_group_one a n) (λ a l isa h. omega (arith, h))

adjectives_first_one : (n : ℕ) → One n adjectives_first
adjectives_first_one n = one_then n n (adjectives_form false) (λ _. behind_form) steps.joined_adjectives.apart (adjectives_one false n) (λ a. behind_one n) (λ a l isa h. omega (arith, h))

term_first_one : (n : ℕ) → One n term_first
term_first_one n = one_then n n (term_form false) (λ _. assigned_form) steps.joined_term.apart (terms_one false n).terms (λ a. assigned_one n) (λ a l isa h. omega (arith, h))

-- What stands behind `cluster`: the tokens say of which kind both are.
same_kind : (a b : RegisteredTree) (tok : MarkedToken) (x y m k : List MarkedToken) → IsRegistered a → IsRegistered b → spell_registered a ≡ tok ∷ m → spell_registered b ≡ tok ∷ k → m ++ x ≡ k ++ y → kind_of a ≡ kind_of b
same_kind a b tok x y m k isa isb ea eb f =
    let A : List MarkedToken → Type 0 = λ z. Agrees z k in
    sym (kind_told a tok (m ++ x) m isa ea (agrees_self m x)) ∙ kind_told b tok (m ++ x) k isb eb (subst A (sym f) (agrees_self k y))

registered_at : (n : ℕ) (tok : MarkedToken) → OneAt n registered_form tok
registered_at n tok a b x y m k less isa isb ea eb e qa qb = go (kind_of a) refl (sym (same_kind a b tok x y m k isa isb ea eb (tail_of _ _ _ _ (ap (λ z. z ++ x) (sym ea) ∙ (e ∙ ap (λ z. z ++ y) eb)))))
  where
    go : (z : ClusterKind) → kind_of a ≡ z → kind_of b ≡ kind_of a → a ≡ b
    go kinds.Arrow f g = at_same n registered_form implied_form steps.of_implied (λ s is. refl) (λ s t is h. h) (implied_one n) a b x y less (steps.only_arrow a f isa) (steps.only_arrow b (g ∙ f) isb) e qa qb
    go kinds.Adjectives f g = at_same n registered_form adjectives_first of_adjectives (λ s is. refl) (λ s t is h. absurd (steps.ends_adjectives.closed s t is h)) (adjectives_first_one n) a b x y less (steps.only_adjectives a f isa) (steps.only_adjectives b (g ∙ f) isb) e qa qb
    go kinds.Group f g = at_same n registered_form group_form of_group (λ s is. steps.group_spells s) (λ s t is h. absurd (groups.ends_group.closed s t is h)) (group_one n) a b x y less (steps.only_group a f isa) (steps.only_group b (g ∙ f) isb) e qa qb
    go kinds.Term f g = at_same n registered_form term_first of_term (λ s is. refl) (λ s t is h. absurd (steps.ends_term.closed s t is h)) (term_first_one n) a b x y less (steps.only_term a f isa) (steps.only_term b (g ∙ f) isb) e qa qb

registered_one : (n : ℕ) → One n registered_form
registered_one n = one_from n registered_form (λ a b isa isb ea eb. absurd (steps.registered_filled a isa ea)) (λ a b tok m isa isb ea eb. absurd (steps.registered_filled a isa ea)) (λ a tok m isa e. registered_at n tok)

pub cluster_one : (n : ℕ) → One n cluster_form
cluster_one n = one_as n cluster_form steps.cluster_1 steps.make_cluster steps.only_cluster (λ s is. steps.cluster_spells s) (λ s t is g. (steps.as_cluster []).goes s t is g)
    (one_then n n (word_form (codes "cluster")) (λ _. registered_form) steps.joined_cluster.apart (one_class n Place (word_token (codes "cluster")) (word_same (codes "cluster"))) (λ a. registered_one n) (λ a l isa h. omega (arith, h)))

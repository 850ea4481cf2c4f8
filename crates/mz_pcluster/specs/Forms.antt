-- The forms of clusters and of their parts, and what a reading of one promises.
use Rattle.std.specs.Prelude.{◌≡◌, ℕ, suc, Bool, false, List, [], ◌∷◌, ◌++◌, length, refl, Option, Some, None, Result}
use Rattle.std.proofs.Common.{ap}
use Rattle.mz_base.specs.declared.place.Place.{Place}
use Rattle.mz_base.specs.declared.token.MarkedToken.{MarkedToken}
use Rattle.mz_forms.specs.declared.refusal.Refusal.{Refusal}
use Rattle.mz_forms.specs.Form.{Form, each_append, then}
use Rattle.mz_forms.specs.Reading.{Gives, Builds}
use Rattle.mz_tree.specs.declared.word.Word.{Word}
use Rattle.mz_tree.specs.Trees.{AdjectiveData, AdjectivesData, BaseData, PieceList, TermData, TermsData, TypeData, GroupBase, OperandPiece, RunTerm, WithTermsAdjective, adjectives_of, no_prefixs}
use Rattle.mz_tree.specs.Spell.{spell_adjectives, spell_piece_list, spell_term, spell_type}
use Rattle.mz_tree.specs.Levels.{levels_adjectives, levels_piece_list, levels_term, levels_type, each_adjectives, each_maybe, each_piece_list, each_term, each_type}
use Rattle.mz_tree.specs.Rules.{AreSomeAdjectives, IfAny, IsTerm, IsType, last_of, start}
use Rattle.mz_tree.specs.Spelled.{maybe}
use Rattle.mz_tree_part.specs.declared.cluster.ForTypeTree.{ForTypeTree}
use Rattle.mz_tree_part.specs.declared.cluster.ConditionalTree.{ConditionalTree}
use Rattle.mz_tree_part.specs.declared.cluster.ClusterTree.{ClusterTree}
use Rattle.mz_tree_part.specs.declared.cluster.ClusterTree.TheVariants as clusters
use Rattle.mz_tree_part.specs.Spell.{spell_cluster, spell_for_type}
use Rattle.mz_tree_part.specs.Levels.{levels_cluster, levels_for_type}
use Rattle.mz_tree_part.specs.EachLevel.{each_cluster, each_for_type}
use Rattle.mz_tree_part.specs.Rules.{HasNoAdjectives, IsCluster, IsForType}
use Rattle.mz_pterm.specs.declared.sign.Sign.TheVariants as signs
use Rattle.mz_pterm.specs.Sign.{sign_of}
use Rattle.mz_pterm.specs.Words.{name}
use Rattle.mz_pterm.specs.Forms.{bracket, make_group, rest_of_term, term_form}
use Rattle.mz_ptype.specs.Forms.{adjective_list_form, adjectives_form, goes_type}
use Rattle.mz_pjustification.specs.declared.keyword.Keyword.TheVariants as keywords
use Rattle.mz_pjustification.specs.Words.{key, keyword}
use Rattle.mz_ppattern.specs.Words.{arrow_token}
use Rattle.mz_ppattern.specs.Optional.{optional}
use Rattle.mz_pcluster.specs.declared.parts.ImpliedTree.{ImpliedTree}
use Rattle.mz_pcluster.specs.declared.parts.AssignedTree.{AssignedTree}
use Rattle.mz_pcluster.specs.declared.parts.BehindTree.{BehindTree}
use Rattle.mz_pcluster.specs.declared.parts.BehindTree.TheVariants as behinds
use Rattle.mz_pcluster.specs.declared.parts.RegisteredTree.{RegisteredTree}
use Rattle.mz_pcluster.specs.declared.parts.RegisteredTree.TheVariants as registereds
use Rattle.mz_pcluster.specs.Classes.{begins_for_type}

-- `for` and a type, or nothing.
abbrev pub for_type_form : Form MarkedToken
for_type_form = record { Tree = ForTypeTree; spell = spell_for_type; levels = levels_for_type; each = each_for_type; IsTree = IsForType; goes = λ x t. goes_type x.ty (sign_of t) }

abbrev pub optional_for_type : Form MarkedToken
optional_for_type = optional for_type_form begins_for_type

-- What stands behind the premises of a conditional cluster: `->`, adjectives, `for` and a type.
abbrev pub spell_implied : ImpliedTree → List MarkedToken
spell_implied a = arrow_token a.arrow ∷ (spell_adjectives a.adjectives ++ (spell_for_type a.for_type ++ key keywords.Semicolon a.semicolon ∷ []))

abbrev pub levels_implied : ImpliedTree → List ℕ
levels_implied a = 0 ∷ (levels_adjectives a.adjectives ++ (levels_for_type a.for_type ++ 0 ∷ []))

pub each_implied : (a : ImpliedTree) → length (levels_implied a) ≡ length (spell_implied a)
each_implied a = ap suc (each_append (levels_adjectives a.adjectives) (levels_for_type a.for_type ++ 0 ∷ []) (spell_adjectives a.adjectives) (spell_for_type a.for_type ++ key keywords.Semicolon a.semicolon ∷ []) (each_adjectives a.adjectives) (each_append (levels_for_type a.for_type) (0 ∷ []) (spell_for_type a.for_type) (key keywords.Semicolon a.semicolon ∷ []) (each_for_type a.for_type) refl))

abbrev pub IsImplied : ImpliedTree → Type 0
IsImplied a = AreSomeAdjectives false a.adjectives × IsForType a.for_type

abbrev pub implied_form : Form MarkedToken
implied_form = record { Tree = ImpliedTree; spell = spell_implied; levels = levels_implied; each = each_implied; IsTree = IsImplied; goes = λ _ _. false }

-- What stands behind the term of a functorial cluster: `->` and adjectives, with `for` and a type or without.
abbrev pub spell_assigned : AssignedTree → List MarkedToken
spell_assigned a = arrow_token a.arrow ∷ (spell_adjectives a.adjectives ++ (maybe spell_for_type a.for_type ++ key keywords.Semicolon a.semicolon ∷ []))

abbrev pub levels_assigned : AssignedTree → List ℕ
levels_assigned a = 0 ∷ (levels_adjectives a.adjectives ++ (maybe levels_for_type a.for_type ++ 0 ∷ []))

pub each_assigned : (a : AssignedTree) → length (levels_assigned a) ≡ length (spell_assigned a)
each_assigned a = ap suc (each_append (levels_adjectives a.adjectives) (maybe levels_for_type a.for_type ++ 0 ∷ []) (spell_adjectives a.adjectives) (maybe spell_for_type a.for_type ++ key keywords.Semicolon a.semicolon ∷ []) (each_adjectives a.adjectives) (each_append (maybe levels_for_type a.for_type) (0 ∷ []) (maybe spell_for_type a.for_type) (key keywords.Semicolon a.semicolon ∷ []) (each_maybe levels_for_type spell_for_type each_for_type a.for_type) refl))

abbrev pub IsAssigned : AssignedTree → Type 0
IsAssigned a = AreSomeAdjectives false a.adjectives × IfAny IsForType a.for_type

abbrev pub assigned_form : Form MarkedToken
assigned_form = record { Tree = AssignedTree; spell = spell_assigned; levels = levels_assigned; each = each_assigned; IsTree = IsAssigned; goes = λ _ _. false }

-- A type without adjectives.
abbrev pub IsBareType : TypeData → Type 0
IsBareType a = IsType false a × HasNoAdjectives a

abbrev pub bare_type_form : Form MarkedToken
bare_type_form = record { Tree = TypeData; spell = spell_type; levels = levels_type; each = each_type; IsTree = IsBareType; goes = λ x t. goes_type x (sign_of t) }

-- What stands behind the adjectives that a cluster begins with. Without `for` all adjectives are the cluster's, and the
-- type has none of its own.
abbrev pub spell_behind : BehindTree → List MarkedToken
spell_behind (behinds.Type a p) = spell_type a ++ key keywords.Semicolon p ∷ []
spell_behind (behinds.For a p) = spell_for_type a ++ key keywords.Semicolon p ∷ []
spell_behind (behinds.Implied a) = spell_implied a

abbrev pub levels_behind : BehindTree → List ℕ
levels_behind (behinds.Type a p) = levels_type a ++ 0 ∷ []
levels_behind (behinds.For a p) = levels_for_type a ++ 0 ∷ []
levels_behind (behinds.Implied a) = levels_implied a

pub each_behind : (a : BehindTree) → length (levels_behind a) ≡ length (spell_behind a)
each_behind (behinds.Type a p) = each_append (levels_type a) (0 ∷ []) (spell_type a) (key keywords.Semicolon p ∷ []) (each_type a) refl
each_behind (behinds.For a p) = each_append (levels_for_type a) (0 ∷ []) (spell_for_type a) (key keywords.Semicolon p ∷ []) (each_for_type a) refl
each_behind (behinds.Implied a) = each_implied a

abbrev pub IsBehind : BehindTree → Type 0
IsBehind (behinds.Type a p) = IsBareType a
IsBehind (behinds.For a p) = IsForType a
IsBehind (behinds.Implied a) = IsImplied a

abbrev pub behind_form : Form MarkedToken
behind_form = record { Tree = BehindTree; spell = spell_behind; levels = levels_behind; each = each_behind; IsTree = IsBehind; goes = λ _ _. false }

-- What stands behind `cluster`.
abbrev pub spell_registered : RegisteredTree → List MarkedToken
spell_registered (registereds.Implied a) = spell_implied a
spell_registered (registereds.Adjectives a b) = spell_adjectives a ++ spell_behind b
spell_registered (registereds.Term a b) = spell_term a ++ spell_assigned b

abbrev pub levels_registered : RegisteredTree → List ℕ
levels_registered (registereds.Implied a) = levels_implied a
levels_registered (registereds.Adjectives a b) = levels_adjectives a ++ levels_behind b
levels_registered (registereds.Term a b) = levels_term a ++ levels_assigned b

pub each_registered : (a : RegisteredTree) → length (levels_registered a) ≡ length (spell_registered a)
each_registered (registereds.Implied a) = each_implied a
each_registered (registereds.Adjectives a b) = each_append (levels_adjectives a) (levels_behind b) (spell_adjectives a) (spell_behind b) (each_adjectives a) (each_behind b)
each_registered (registereds.Term a b) = each_append (levels_term a) (levels_assigned b) (spell_term a) (spell_assigned b) (each_term a) (each_assigned b)

abbrev pub IsRegistered : RegisteredTree → Type 0
IsRegistered (registereds.Implied a) = IsImplied a
IsRegistered (registereds.Adjectives a b) = AreSomeAdjectives false a × IsBehind b
IsRegistered (registereds.Term a b) = IsTerm false a × IsAssigned b

abbrev pub registered_form : Form MarkedToken
registered_form = record { Tree = RegisteredTree; spell = spell_registered; levels = levels_registered; each = each_registered; IsTree = IsRegistered; goes = λ _ _. false }

abbrev pub adjectives_first : Form MarkedToken
adjectives_first = then (adjectives_form false) (λ _. behind_form)

abbrev pub of_adjectives : (AdjectivesData × BehindTree) → RegisteredTree
of_adjectives k = registereds.Adjectives k.0 k.1

abbrev pub term_first : Form MarkedToken
term_first = then (term_form false) (λ _. assigned_form)

abbrev pub of_term : (TermData × AssignedTree) → RegisteredTree
of_term k = registereds.Term k.0 k.1

-- What begins with terms in parentheses: an attribute behind them makes them the arguments of the first adjective, and
-- else they begin a term.
abbrev pub attributed_form : Form MarkedToken
attributed_form = then (name signs.Attribute) (λ _. then (adjective_list_form false) (λ _. behind_form))

abbrev pub continued_form : (Place × (TermsData × Place)) → Form MarkedToken
continued_form k = then (rest_of_term false (last_of start (make_group k))) (λ _. assigned_form)

pub data BehindGroup : Type 0 where
  attributed : Word → List AdjectiveData → BehindTree → BehindGroup
  continued : PieceList → AssignedTree → BehindGroup

abbrev pub spell_behind_group : BehindGroup → List MarkedToken
spell_behind_group (attributed w ads b) = attributed_form.spell (w, (ads, b))
spell_behind_group (continued ps a) = spell_piece_list ps ++ spell_assigned a

abbrev pub levels_behind_group : BehindGroup → List ℕ
levels_behind_group (attributed w ads b) = attributed_form.levels (w, (ads, b))
levels_behind_group (continued ps a) = levels_piece_list ps ++ levels_assigned a

pub each_behind_group : (k : BehindGroup) → length (levels_behind_group k) ≡ length (spell_behind_group k)
each_behind_group (attributed w ads b) = attributed_form.each (w, (ads, b))
each_behind_group (continued ps a) = each_append (levels_piece_list ps) (levels_assigned a) (spell_piece_list ps) (spell_assigned a) (each_piece_list ps) (each_assigned a)

abbrev pub Bracketed : Type 0
Bracketed = Place × (TermsData × Place)

abbrev pub IsBehindGroup : Bracketed → BehindGroup → Type 0
IsBehindGroup k (attributed w ads b) = attributed_form.IsTree (w, (ads, b))
IsBehindGroup k (continued ps a) = (continued_form k).IsTree (ps, a)

abbrev pub behind_group_form : Bracketed → Form MarkedToken
behind_group_form k = record { Tree = BehindGroup; spell = spell_behind_group; levels = levels_behind_group; each = each_behind_group; IsTree = IsBehindGroup k; goes = λ _ _. false }

abbrev pub group_form : Form MarkedToken
group_form = then (bracket false signs.Open signs.Close) behind_group_form

abbrev pub with_attribute : Bracketed → (Word × (List AdjectiveData × BehindTree)) → RegisteredTree
with_attribute k r = registereds.Adjectives (record { first = WithTermsAdjective None k.0 k.1.0 k.1.1 r.0; more = adjectives_of r.1.0 }) r.1.1

abbrev pub with_pieces : Bracketed → (PieceList × AssignedTree) → RegisteredTree
with_pieces k r = registereds.Term (RunTerm (OperandPiece no_prefixs (make_group k)) r.0) r.1

abbrev pub with_group : Bracketed → BehindGroup → RegisteredTree
with_group k (attributed w ads b) = with_attribute k (w, (ads, b))
with_group k (continued ps a) = with_pieces k (ps, a)

abbrev pub of_group : (Bracketed × BehindGroup) → RegisteredTree
of_group k = with_group k.0 k.1

-- Clusters.
abbrev pub conditional_of : Place → Option AdjectivesData → ImpliedTree → ConditionalTree
conditional_of p premises a = record { cluster = p; premises = premises; arrow = a.arrow; adjectives = a.adjectives; for_type = a.for_type; semicolon = a.semicolon }

abbrev pub with_adjectives : Place → AdjectivesData → BehindTree → ClusterTree
with_adjectives p a (behinds.Type t q) = clusters.Existential (record { cluster = p; adjectives = a; for_ = None; ty = t; semicolon = q })
with_adjectives p a (behinds.For t q) = clusters.Existential (record { cluster = p; adjectives = a; for_ = Some t.for_; ty = t.ty; semicolon = q })
with_adjectives p a (behinds.Implied b) = clusters.Conditional (conditional_of p (Some a) b)

abbrev pub cluster_of : Place → RegisteredTree → ClusterTree
cluster_of p (registereds.Implied a) = clusters.Conditional (conditional_of p None a)
cluster_of p (registereds.Adjectives a b) = with_adjectives p a b
cluster_of p (registereds.Term a b) = clusters.Functorial (record { cluster = p; term = a; arrow = b.arrow; adjectives = b.adjectives; for_type = b.for_type; semicolon = b.semicolon })

abbrev pub cluster_form : Form MarkedToken
cluster_form = record { Tree = ClusterTree; spell = spell_cluster; levels = levels_cluster; each = each_cluster; IsTree = IsCluster; goes = λ _ _. false }

-- What was read is that of which the form's tree is made.
abbrev pub ReadsAdjectives : ℕ → List MarkedToken → Result RegisteredTree Refusal → List MarkedToken → Type 0
ReadsAdjectives room before result after = Gives adjectives_first room (λ x. Builds adjectives_first room of_adjectives x before after) before result after

abbrev pub ReadsTerm : ℕ → List MarkedToken → Result RegisteredTree Refusal → List MarkedToken → Type 0
ReadsTerm room before result after = Gives term_first room (λ x. Builds term_first room of_term x before after) before result after

abbrev pub ReadsAttributed : ℕ → Bracketed → List MarkedToken → Result RegisteredTree Refusal → List MarkedToken → Type 0
ReadsAttributed room k before result after = Gives attributed_form room (λ x. Builds attributed_form room (with_attribute k) x before after) before result after

abbrev pub ReadsContinued : ℕ → Bracketed → List MarkedToken → Result RegisteredTree Refusal → List MarkedToken → Type 0
ReadsContinued room k before result after = Gives (continued_form k) room (λ x. Builds (continued_form k) room (with_pieces k) x before after) before result after

abbrev pub ReadsBehindGroup : ℕ → Bracketed → List MarkedToken → Result RegisteredTree Refusal → List MarkedToken → Type 0
ReadsBehindGroup room k before result after = Gives (behind_group_form k) room (λ x. Builds (behind_group_form k) room (with_group k) x before after) before result after

abbrev pub ReadsGroup : ℕ → List MarkedToken → Result RegisteredTree Refusal → List MarkedToken → Type 0
ReadsGroup room before result after = Gives group_form room (λ x. Builds group_form room of_group x before after) before result after

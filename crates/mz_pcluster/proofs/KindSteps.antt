-- Which cluster tokens begin, by the first two of them.
use Rattle.std.specs.Prelude.{if◌then◌else◌}
use Rattle.std.proofs.Common.{◌≡◌, ℕ, Bool, true, false, List, [], ◌∷◌, ◌++◌, refl, sym, ap, subst, ◌∙◌, append_assoc, Option, Some, None}
use Rattle.mz_base.specs.declared.place.Place.{Place}
use Rattle.mz_base.specs.declared.token.MarkedToken.{MarkedToken}
use Rattle.mz_forms.specs.Form.{Agrees}
use Rattle.mz_forms.proofs.Compose.{head_of, tail_of}
use Rattle.mz_tree.specs.declared.word.Word.{Word}
use Rattle.mz_tree.specs.Spelled as spelled
use Rattle.mz_tree.specs.Trees.{AdjectiveData, BaseData, PieceData, PieceList, TermData, RunTerm, FunctorPiece, OperandPiece, SelectorPrefix, ChoiceOfPrefix, ChoiceOverPrefix, IdentifierBase, SubjectBase, ArgumentBase, GroupBase, CallBase, CallWithBase, SelectorBase, AggregateBase, BracketsBase, BracesBase, SquaresBase, SetOfBase, ChoiceBase, ChoiceStructureBase, PlainAdjective, WithIdentifierAdjective, WithTermsAdjective, no_pieces, more_pieces, no_prefixs, more_prefixs}
use Rattle.mz_tree.specs.Spell.{spell_adjective, spell_adjective_list, spell_base, spell_piece, spell_piece_list, spell_prefix_list, spell_term}
use Rattle.mz_tree.specs.Rules.{GoesOn, IsBase, IsTerm, operand, last_of, start}
use Rattle.mz_pterm.specs.declared.sign.Sign.{Sign}
use Rattle.mz_pterm.specs.declared.sign.Sign.TheVariants as signs
use Rattle.mz_pterm.specs.Sign.{sign_of}
use Rattle.mz_pterm.specs.Words.{fixed, named}
use Rattle.mz_pterm.proofs.Signs.{sign_of-argument, sign_of-fixed, sign_of-functor, sign_of-named}
use Rattle.mz_ptype.proofs.Optional.{never}
use Rattle.mz_ppattern.specs.Words.{arrow_token, is_arrow}
use Rattle.mz_ppattern.proofs.WordSteps.{arrow_own, arrow_signed}
use Rattle.mz_pcluster.specs.declared.kinds.ClusterKind.{ClusterKind}
use Rattle.mz_pcluster.specs.declared.kinds.ClusterKind.TheVariants as kinds
use Rattle.mz_pcluster.specs.declared.parts.AssignedTree.{AssignedTree}
use Rattle.mz_pcluster.specs.declared.parts.RegisteredTree.{RegisteredTree}
use Rattle.mz_pcluster.specs.declared.parts.RegisteredTree.TheVariants as registereds
use Rattle.mz_pcluster.specs.Classes.{cluster_kind, first_kind, is_attribute, kind_behind, second_kind}
use Rattle.mz_pcluster.specs.Forms.{spell_assigned, spell_registered, IsRegistered}
use Rattle.mz_pcluster.proofs.PartSteps.{no_arrow}

-- The kind of a tree.
abbrev pub adjective_kind : AdjectiveData → ClusterKind
adjective_kind (WithTermsAdjective None p ts q w) = kinds.Group
adjective_kind (WithTermsAdjective (Some r) p ts q w) = kinds.Adjectives
adjective_kind (PlainAdjective o w) = kinds.Adjectives
adjective_kind (WithIdentifierAdjective o v w) = kinds.Adjectives

abbrev pub base_kind : BaseData → ClusterKind
base_kind (GroupBase p ts q) = kinds.Group
base_kind _ = kinds.Term

abbrev pub piece_kind : PieceData → ClusterKind
piece_kind (FunctorPiece w n) = kinds.Term
piece_kind (OperandPiece no_prefixs b) = base_kind b
piece_kind (OperandPiece (more_prefixs p ps) b) = kinds.Term

abbrev pub term_kind : TermData → ClusterKind
term_kind (RunTerm p ps) = piece_kind p

abbrev pub kind_of : RegisteredTree → ClusterKind
kind_of (registereds.Implied a) = kinds.Arrow
kind_of (registereds.Adjectives a b) = adjective_kind a.first
kind_of (registereds.Term a b) = term_kind a

-- by the first token, and by the second behind an identifier
cluster_kind-by_first : (t : MarkedToken) (rest : List MarkedToken) (s : MarkedToken) (k : Sign) → t ≡ s → sign_of s ≡ k → (k ≡ signs.Other → ⊥) → cluster_kind (t ∷ rest) ≡ first_kind k rest
cluster_kind-by_first t rest s k e h differ =
    ap (λ z. (if z then kinds.Arrow else first_kind (sign_of t) rest)) (no_arrow t k (ap sign_of e ∙ h) differ) ∙ ap (λ z. first_kind z rest) (ap sign_of e ∙ h)

by_second : (rest : List MarkedToken) (n : MarkedToken) (w more : List MarkedToken) (k : Sign) → more ≡ n ∷ w → Agrees rest more → sign_of n ≡ k → second_kind rest ≡ kind_behind k
by_second rest n w more k e agrees h = go rest (subst (λ (z : List MarkedToken). Agrees rest z) e agrees)
  where
    go : (r : List MarkedToken) → Agrees r (n ∷ w) → second_kind r ≡ kind_behind k
    go [] g = absurd g
    go (s ∷ r) g = ap kind_behind (ap sign_of (sym g) ∙ h)

cluster_kind-adjective_told : (x : AdjectiveData) (v : List MarkedToken) (t : MarkedToken) (rest more : List MarkedToken) → spell_adjective x ++ v ≡ t ∷ more → Agrees rest more → cluster_kind (t ∷ rest) ≡ adjective_kind x
cluster_kind-adjective_told (PlainAdjective None w) v t rest more e agrees = cluster_kind-by_first t rest (named signs.Attribute w) signs.Attribute (sym (head_of _ _ _ _ e)) (sign_of-named signs.Attribute w refl) (λ f. cc)
cluster_kind-adjective_told (PlainAdjective (Some p) w) v t rest more e agrees = cluster_kind-by_first t rest (fixed signs.Non p) signs.Non (sym (head_of _ _ _ _ e)) (sign_of-fixed signs.Non p refl) (λ f. cc)
cluster_kind-adjective_told (WithIdentifierAdjective None u w) v t rest more e agrees =
    cluster_kind-by_first t rest (named signs.Identifier u) signs.Identifier (sym (head_of _ _ _ _ e)) (sign_of-named signs.Identifier u refl) (λ f. cc)
    ∙ by_second rest (named signs.Attribute w) v more signs.Attribute (sym (tail_of _ _ _ _ e)) agrees (sign_of-named signs.Attribute w refl)
cluster_kind-adjective_told (WithIdentifierAdjective (Some p) u w) v t rest more e agrees = cluster_kind-by_first t rest (fixed signs.Non p) signs.Non (sym (head_of _ _ _ _ e)) (sign_of-fixed signs.Non p refl) (λ f. cc)
cluster_kind-adjective_told (WithTermsAdjective None p ts q w) v t rest more e agrees = cluster_kind-by_first t rest (fixed signs.Open p) signs.Open (sym (head_of _ _ _ _ e)) (sign_of-fixed signs.Open p refl) (λ f. cc)
cluster_kind-adjective_told (WithTermsAdjective (Some r) p ts q w) v t rest more e agrees = cluster_kind-by_first t rest (fixed signs.Non r) signs.Non (sym (head_of _ _ _ _ e)) (sign_of-fixed signs.Non r refl) (λ f. cc)

-- BehindTree an identifier that begins a term no attribute stands.
second_kind-behind_identifier : (ps : PieceList) (a : AssignedTree) (rest more : List MarkedToken) → GoesOn false operand ps → spell_piece_list ps ++ spell_assigned a ≡ more → Agrees rest more → second_kind rest ≡ kinds.Term
second_kind-behind_identifier no_pieces a rest more is e agrees = by_second rest (arrow_token a.arrow) _ more signs.Other (sym e) agrees (arrow_signed a.arrow)
second_kind-behind_identifier (more_pieces (FunctorPiece w n) ps) a rest more is e agrees = by_second rest (spelled.functor w n) _ more signs.Functor (sym e) agrees (sign_of-functor w n)
second_kind-behind_identifier (more_pieces (OperandPiece x b) ps) a rest more is e agrees = absurd is.0.0

cluster_kind-base_told : (b : BaseData) (ps : PieceList) (a : AssignedTree) (t : MarkedToken) (rest more : List MarkedToken) → IsBase false b → GoesOn false (last_of start b) ps → spell_base b ++ (spell_piece_list ps ++ spell_assigned a) ≡ t ∷ more → Agrees rest more → cluster_kind (t ∷ rest) ≡ base_kind b
cluster_kind-base_told (IdentifierBase w) ps a t rest more is on e agrees =
    cluster_kind-by_first t rest (named signs.Identifier w) signs.Identifier (sym (head_of _ _ _ _ e)) (sign_of-named signs.Identifier w refl) (λ f. cc) ∙ second_kind-behind_identifier ps a rest more on (tail_of _ _ _ _ e) agrees
cluster_kind-base_told (SubjectBase p) ps a t rest more is on e agrees = cluster_kind-by_first t rest (fixed signs.It p) signs.It (sym (head_of _ _ _ _ e)) (sign_of-fixed signs.It p refl) (λ f. cc)
cluster_kind-base_told (ArgumentBase p n) ps a t rest more is on e agrees = cluster_kind-by_first t rest (spelled.argument p n) (signs.Argument n) (sym (head_of _ _ _ _ e)) (sign_of-argument p n is.0 is.1) (λ f. cc)
cluster_kind-base_told (GroupBase p ts q) ps a t rest more is on e agrees = cluster_kind-by_first t rest (fixed signs.Open p) signs.Open (sym (head_of _ _ _ _ e)) (sign_of-fixed signs.Open p refl) (λ f. cc)
cluster_kind-base_told (CallBase w p q) ps a t rest more is on e agrees =
    cluster_kind-by_first t rest (named signs.Identifier w) signs.Identifier (sym (head_of _ _ _ _ e)) (sign_of-named signs.Identifier w refl) (λ f. cc) ∙ by_second rest (fixed signs.Open p) _ more signs.Open (sym (tail_of _ _ _ _ e)) agrees (sign_of-fixed signs.Open p refl)
cluster_kind-base_told (CallWithBase w p ts q) ps a t rest more is on e agrees =
    cluster_kind-by_first t rest (named signs.Identifier w) signs.Identifier (sym (head_of _ _ _ _ e)) (sign_of-named signs.Identifier w refl) (λ f. cc) ∙ by_second rest (fixed signs.Open p) _ more signs.Open (sym (tail_of _ _ _ _ e)) agrees (sign_of-fixed signs.Open p refl)
cluster_kind-base_told (SelectorBase p w) ps a t rest more is on e agrees = absurd (never is)
cluster_kind-base_told (AggregateBase w p ts q) ps a t rest more is on e agrees = cluster_kind-by_first t rest (named signs.Structure w) signs.Structure (sym (head_of _ _ _ _ e)) (sign_of-named signs.Structure w refl) (λ f. cc)
cluster_kind-base_told (BracketsBase p ts q) ps a t rest more is on e agrees = cluster_kind-by_first t rest (named signs.LeftBracket p) signs.LeftBracket (sym (head_of _ _ _ _ e)) (sign_of-named signs.LeftBracket p refl) (λ f. cc)
cluster_kind-base_told (BracesBase p ts q) ps a t rest more is on e agrees = cluster_kind-by_first t rest (fixed signs.OpenBrace p) signs.OpenBrace (sym (head_of _ _ _ _ e)) (sign_of-fixed signs.OpenBrace p refl) (λ f. cc)
cluster_kind-base_told (SquaresBase p ts q) ps a t rest more is on e agrees = cluster_kind-by_first t rest (fixed signs.OpenSquare p) signs.OpenSquare (sym (head_of _ _ _ _ e)) (sign_of-fixed signs.OpenSquare p refl) (λ f. cc)
cluster_kind-base_told (SetOfBase x1 x2 x3 x4 x5 x6 x7 x8 x9) ps a t rest more is on e agrees = absurd is
cluster_kind-base_told (ChoiceBase x1 x2 x3) ps a t rest more is on e agrees = absurd is
cluster_kind-base_told (ChoiceStructureBase x1 x2 x3) ps a t rest more is on e agrees = absurd is

cluster_kind-term_told : (x : TermData) (a : AssignedTree) (t : MarkedToken) (rest more : List MarkedToken) → IsTerm false x → spell_term x ++ spell_assigned a ≡ t ∷ more → Agrees rest more → cluster_kind (t ∷ rest) ≡ term_kind x
cluster_kind-term_told (RunTerm (FunctorPiece w n) ps) a t rest more is e agrees = cluster_kind-by_first t rest (spelled.functor w n) signs.Functor (sym (head_of _ _ _ _ e)) (sign_of-functor w n) (λ f. cc)
cluster_kind-term_told (RunTerm (OperandPiece (more_prefixs (SelectorPrefix p w q) vs) b) ps) a t rest more is e agrees = cluster_kind-by_first t rest (fixed signs.The p) signs.The (sym (head_of _ _ _ _ e)) (sign_of-fixed signs.The p refl) (λ f. cc)
cluster_kind-term_told (RunTerm (OperandPiece (more_prefixs (ChoiceOfPrefix p v w q x) vs) b) ps) a t rest more is e agrees = absurd is.0.1
cluster_kind-term_told (RunTerm (OperandPiece (more_prefixs (ChoiceOverPrefix p v w q x) vs) b) ps) a t rest more is e agrees = absurd is.0.1
cluster_kind-term_told (RunTerm (OperandPiece no_prefixs b) ps) a t rest more is e agrees = cluster_kind-base_told b ps a t rest more is.0.2 is.1 (sym (append_assoc (spell_base b) (spell_piece_list ps) (spell_assigned a)) ∙ e) agrees

pub kind_told : (x : RegisteredTree) (t : MarkedToken) (rest more : List MarkedToken) → IsRegistered x → spell_registered x ≡ t ∷ more → Agrees rest more → cluster_kind (t ∷ rest) ≡ kind_of x
kind_told (registereds.Implied a) t rest more is e agrees = ap (λ z. (if z then kinds.Arrow else first_kind (sign_of t) rest)) (ap is_arrow (sym (head_of _ _ _ _ e)) ∙ arrow_own a.arrow)
kind_told (registereds.Adjectives a b) t rest more is e agrees = cluster_kind-adjective_told a.first _ t rest more (sym (append_assoc (spell_adjective a.first) (spell_adjective_list a.more) _) ∙ e) agrees
kind_told (registereds.Term a b) t rest more is e agrees = cluster_kind-term_told a b t rest more is.0 e agrees

-- What the loops keep, and results that are handed on.
use Rattle.std.specs.declared.alloc.Global.{Global}
use Rattle.std.proofs.Common.{◌≡◌, ℕ, Bool, true, false, List, [], ◌∷◌, ◌++◌, map, refl, sym, ap, subst, ◌∙◌, length, arith, None, Some, Result, Ok, Err, Vec, Box, not, ◌⊎◌, inl, inr}
use Rattle.mz_base.specs.declared.place.Place.{Place}
use Rattle.mz_forms.specs.declared.refusal.Refusal.{Refusal}
use Rattle.mz_forms.specs.Form.{Form, Found, Finds, Fails, Leads}
use Rattle.mz_forms.specs.Reading.{Refuses, Reads, Gives, Builds}
use Rattle.mz_forms.proofs.Choose.{finds_empty, fails_here}
use Rattle.mz_forms.proofs.Chain.{Chained, chained_none, chained_step, chained_end, member_refused, chain_ends, pair_apart}
use Rattle.mz_forms.proofs.Descend.{passes_down}
use Rattle.mz_forms.proofs.Leads.{leads_here, leads_same, leads_on, leads_behind, beside, first_refuses, gives_through}
use Rattle.mz_base.specs.declared.token.MarkedToken.{MarkedToken}
use Rattle.mz_tree.specs.declared.word.Word.{Word}
use Rattle.mz_tree.specs.declared.chain.Chain.{Chain}
use Rattle.mz_tree.specs.declared.chain.Next.{Next}
use Rattle.mz_tree.specs.declared.nodes.BaseNode.{BaseNode}
use Rattle.mz_tree.specs.declared.nodes.BaseNode.TheVariants as bases
use Rattle.mz_tree.specs.declared.nodes.OperandNode.{OperandNode}
use Rattle.mz_tree.specs.declared.nodes.PieceNode.{PieceNode}
use Rattle.mz_tree.specs.declared.nodes.PrefixNode.{PrefixNode}
use Rattle.mz_tree.specs.declared.nodes.PrefixNode.TheVariants as prefixs
use Rattle.mz_tree.specs.declared.nodes.TermNode.{TermNode}
use Rattle.mz_tree.specs.Trees.{TermData, TermsData, BaseData, GroupBase, PieceData, PieceList, PrefixData, PrefixList, SelectorPrefix, SelectorBase, RunTerm, ListTerms, NextNextTerm, no_pieces, more_pieces, no_prefixs, more_prefixs, more_next_terms, pieces_of, prefixs_of, next_terms_of}
use Rattle.mz_tree.specs.Rules.{Last, start, MayEnd, GoesOn, is_several, last_of, last_with}
use Rattle.mz_tree.specs.Views.{OperandData, base_of, operand_of, piece_of, prefix_of, term_of, terms_of, next_term_of}
use Rattle.mz_tree.proofs.Views.{base_of-group, prefix_of-selector, operand_of-is, term_of-is}
use Rattle.mz_pterm.specs.declared.sign.Sign.TheVariants as signs
use Rattle.mz_pterm.specs.declared.terms.Last as rust_last
use Rattle.mz_pterm.specs.declared.terms.Last.TheVariants as lasts
use Rattle.mz_pterm.specs.declared.terms.Selected.TheVariants as selecteds
use Rattle.mz_pterm.specs.Sign.{sign_of}
use Rattle.mz_pterm.specs.Words.{fixed, word_of, TakesPlace}
use Rattle.mz_pterm.specs.Forms.{operand_form, base_form, selected_with, alone_selection, of_selection, rest_of_term, term_form, term_links, more_terms, next_terms, terms_form, bracket, single, make_group, make_single, aggregate, make_aggregate, call_form, called, base_in, Boxes, bracketed_of, one_bracketed, last_seen, IsSelected, IsPieceOf, ReadsAggregate, ReadsGroup, ReadsCall, ReadsRestOfTerm, ReadsRestOfTerms}
use Rattle.mz_pterm.proofs.Operands.{unprefixed, run_of, some_terms, list_of, linked_terms, some_functor}
use Rattle.mz_pterm.proofs.Steps.{begin_base, begin_single, begin_group, begin_term, begin_terms, take_identifier, take_structure}

append-nil : {X : Type 0} (xs : List X) → xs ++ [] ≡ xs
append-nil [] = refl
append-nil (x ∷ xs) = ap (λ z. x ∷ z) (append-nil xs)

pub map_push : {X Y : Type 0} (f : X → Y) (v w : List X) (p : X) → w ≡ v ++ p ∷ [] → map f w ≡ map f v ++ f p ∷ []
map_push f v w p e = ap (map f) e ∙ go v
  where
    go : (v : List _) → map f (v ++ p ∷ []) ≡ map f v ++ f p ∷ []
    go [] = refl
    go (q ∷ v) = ap (λ z. f q ∷ z) (go v)

-- Selectors before an operand.
abbrev pub prefixes_onto : List PrefixData → PrefixList → PrefixList
prefixes_onto [] qs = qs
prefixes_onto (p ∷ ps) qs = more_prefixs p (prefixes_onto ps qs)

abbrev pub onto : List PrefixData → OperandData → OperandData
onto ps o = record { prefixes = prefixes_onto ps o.prefixes; base = o.base }

prefixes_onto_onto : (ps qs : List PrefixData) (rs : PrefixList) → prefixes_onto (ps ++ qs) rs ≡ prefixes_onto ps (prefixes_onto qs rs)
prefixes_onto_onto [] qs rs = refl
prefixes_onto_onto (p ∷ ps) qs rs = ap (λ z. more_prefixs p z) (prefixes_onto_onto ps qs rs)

prefixes_all : (ps : List PrefixData) → prefixes_onto ps no_prefixs ≡ prefixs_of ps
prefixes_all [] = refl
prefixes_all (p ∷ ps) = ap (λ z. more_prefixs p z) (prefixes_all ps)

pub record Prefixed (field behind : Bool) (room : ℕ) (so_far : List PrefixData) (b c : List MarkedToken) : Type 0 where
  pub leads : Leads (operand_form field false) (operand_form field behind) room (onto so_far) b c

pub prefixed_none : (field : Bool) (room : ℕ) (so_far : List PrefixData) (b : List MarkedToken) → so_far ≡ [] → Prefixed field false room so_far b b
prefixed_none field room so_far b e = let P : List PrefixData → Type 0 = λ z. Prefixed field false room z b b in subst P (sym e) (record {
  leads = leads_same (operand_form field false) (operand_form field false) room (λ o. o) (onto []) b b (λ o. refl) (leads_here (operand_form field false) room b);
})

pub prefixed_step : (field behind : Bool) (room : ℕ) (v w : List PrefixNode) (p : Place) (u : Word) (q : Place) (b c d : List MarkedToken) → Prefixed field behind room (map prefix_of v) b c → w ≡ v ++ prefixs.Selector p u q ∷ [] →
    IsSelected field behind room c d (Some (selecteds.Of p u q)) → Prefixed field true room (map prefix_of w) b d
prefixed_step field behind room v w p u q b c d so_far e next =
    let grown : map prefix_of w ≡ map prefix_of v ++ SelectorPrefix p u q ∷ [] = map_push prefix_of v w (prefixs.Selector p u q) e ∙ ap (λ z. map prefix_of v ++ z ∷ []) (prefix_of-selector p u q) in
    let P : List PrefixData → Type 0 = λ z. Prefixed field true room z b d in
    subst P (sym grown) (record {
      leads = leads_same (operand_form field false) (operand_form field true) room (λ o. onto (map prefix_of v) (selected_with p u (of_selection q o))) (onto (map prefix_of v ++ SelectorPrefix p u q ∷ [])) b d
          (λ o. ap (λ z. record { prefixes = z; base = o.base }) (sym (prefixes_onto_onto (map prefix_of v) (SelectorPrefix p u q ∷ []) o.prefixes)))
          (leads_on (operand_form field false) (operand_form field behind) (operand_form field true) room (onto (map prefix_of v)) (λ o. selected_with p u (of_selection q o)) b c d so_far.leads next.0);
    })

-- an operand of these prefixes and this base
onto-operand_seen : (v : Vec PrefixNode Global) (x : Box BaseNode Global) (o : OperandData) → o ≡ unprefixed (base_in x) → onto (map prefix_of v.items) o ≡ operand_of (record { prefixes = v; base = x })
onto-operand_seen v x o e = ap (onto (map prefix_of v.items)) e ∙ (ap (λ z. record { prefixes = z; base = base_in x }) (prefixes_all (map prefix_of v.items)) ∙ sym (operand_of-is (record { prefixes = v; base = x })))

pub alone_end : (field behind : Bool) (room : ℕ) (v : Vec PrefixNode Global) (p : Place) (u : Word) (x : Box BaseNode Global) (b c after : List MarkedToken) → Prefixed field behind room (map prefix_of v.items) b c → base_in x ≡ SelectorBase p u → IsSelected field behind room c after (Some (selecteds.Alone p u)) →
    Found (operand_form field false) room b (operand_of (record { prefixes = v; base = x })) after
alone_end field behind room v p u x b c after so_far e h =
    let F : OperandData → Type 0 = λ z. Found (operand_form field false) room b z after in
    subst F (onto-operand_seen v x (selected_with p u alone_selection) (ap unprefixed (sym e))) (so_far.leads.finds (selected_with p u alone_selection) after h)

-- no selector comes next, and a base is read
pub base_leads : (field behind : Bool) (room : ℕ) (so_far : List PrefixData) (b c d : List MarkedToken) → Prefixed field behind room so_far b c → IsSelected field behind room c d None →
    Leads (operand_form field false) (base_form field behind) room (λ x. onto so_far (unprefixed x)) b d
base_leads field behind room so_far b c d h none =
    let F : List MarkedToken → Type 0 = λ z. Leads (operand_form field false) (base_form field behind) room (λ x. onto so_far (unprefixed x)) b z in
    subst F none.0 (leads_on (operand_form field false) (operand_form field behind) (base_form field behind) room (onto so_far) unprefixed b c c h.leads (begin_base field behind room c none.1))

pub base_end : (field behind : Bool) (room : ℕ) (v : Vec PrefixNode Global) (x : Box BaseNode Global) (b c d after : List MarkedToken) → Prefixed field behind room (map prefix_of v.items) b c → IsSelected field behind room c d None → Found (base_form field behind) room d (base_in x) after →
    Found (operand_form field false) room b (operand_of (record { prefixes = v; base = x })) after
base_end field behind room v x b c d after so_far none h =
    let F : OperandData → Type 0 = λ z. Found (operand_form field false) room b z after in
    subst F (onto-operand_seen v x (unprefixed (base_in x)) refl) ((base_leads field behind room (map prefix_of v.items) b c d so_far none).finds (base_in x) after h)

-- The pieces of a term.
abbrev pub pieces_onto : List PieceData → PieceList → PieceList
pieces_onto [] t = t
pieces_onto (p ∷ ps) t = more_pieces p (pieces_onto ps t)

pieces_onto_onto : (ps qs : List PieceData) (t : PieceList) → pieces_onto (ps ++ qs) t ≡ pieces_onto ps (pieces_onto qs t)
pieces_onto_onto [] qs t = refl
pieces_onto_onto (p ∷ ps) qs t = ap (λ z. more_pieces p z) (pieces_onto_onto ps qs t)

pieces_all : (ps : List PieceData) → pieces_onto ps no_pieces ≡ pieces_of ps
pieces_all [] = refl
pieces_all (p ∷ ps) = ap (λ z. more_pieces p z) (pieces_all ps)

pub record Pieces (field : Bool) (room : ℕ) (l k : Last) (so_far : List PieceData) (b c : List MarkedToken) : Type 0 where
  pub leads : Leads (rest_of_term field l) (rest_of_term field k) room (pieces_onto so_far) b c

pub pieces_none : (field : Bool) (room : ℕ) (l : Last) (so_far : List PieceData) (b : List MarkedToken) → so_far ≡ [] → Pieces field room l l so_far b b
pieces_none field room l so_far b e = let P : List PieceData → Type 0 = λ z. Pieces field room l l z b b in subst P (sym e) (record { leads = leads_here (rest_of_term field l) room b })

pub pieces_step : (field : Bool) (room : ℕ) (l k m : Last) (v w : List PieceNode) (p : PieceNode) (b c d : List MarkedToken) → Pieces field room l k (map piece_of v) b c → w ≡ v ++ p ∷ [] →
    Leads (rest_of_term field k) (rest_of_term field m) room (more_pieces (piece_of p)) c d → Pieces field room l m (map piece_of w) b d
pieces_step field room l k m v w p b c d so_far e next =
    let P : List PieceData → Type 0 = λ z. Pieces field room l m z b d in
    subst P (sym (map_push piece_of v w p e)) (record {
      leads = leads_same (rest_of_term field l) (rest_of_term field m) room (λ z. pieces_onto (map piece_of v) (more_pieces (piece_of p) z)) (pieces_onto (map piece_of v ++ piece_of p ∷ [])) b d
          (λ y. sym (pieces_onto_onto (map piece_of v) (piece_of p ∷ []) y))
          (leads_on (rest_of_term field l) (rest_of_term field k) (rest_of_term field m) room (pieces_onto (map piece_of v)) (more_pieces (piece_of p)) b c d so_far.leads next);
    })

-- where no piece may come next, a term ends or doesn't
pub term_ends : (field : Bool) (room : ℕ) (l : Last) (b after : List MarkedToken) → MayEnd l → IsPieceOf field room l b after None → Found (rest_of_term field l) room b no_pieces after
term_ends field room l b after may h =
    let F : List MarkedToken → Type 0 = λ z. Finds (rest_of_term field l) b no_pieces z in
    record { found = subst F h.0 (finds_empty (rest_of_term field l) no_pieces b may refl h.1); fits = λ i h. absurd (omega (arith, h)) }

pub term_stops : (field : Bool) (room : ℕ) (l : Last) (b after : List MarkedToken) → (MayEnd l → ⊥) → IsPieceOf field room l b after None → Fails (rest_of_term field l) room b after
term_stops field room l b after may h =
    let F : List MarkedToken → Type 0 = λ z. Fails (rest_of_term field l) room b z in
    let G : PieceList → Type 0 = λ z. GoesOn field l z in
    subst F h.0 (fails_here (rest_of_term field l) room some_functor b (tt, tt) (λ x is agrees. may (subst G (h.1 x is agrees) is)))

pub may_end : (l : rust_last.Last) → (l ≡ lasts.Functor) ⊎ (l ≡ lasts.Operand) → MayEnd (last_seen l)
may_end l (inl e) = let M : rust_last.Last → Type 0 = λ z. MayEnd (last_seen z) in subst M (sym e) tt
may_end l (inr e) = let M : rust_last.Last → Type 0 = λ z. MayEnd (last_seen z) in subst M (sym e) tt

pub may_not_end : (l : rust_last.Last) → (l ≡ lasts.Start) ⊎ (l ≡ lasts.Several) → MayEnd (last_seen l) → ⊥
may_not_end l (inl e) h = let M : rust_last.Last → Type 0 = λ z. MayEnd (last_seen z) in subst M e h
may_not_end l (inr e) h = let M : rust_last.Last → Type 0 = λ z. MayEnd (last_seen z) in subst M e h

pub pieces_end : (field : Bool) (room : ℕ) (l k : Last) (first now : PieceNode) (v : Vec PieceNode Global) (b c after : List MarkedToken) → now ≡ first → Pieces field room l k (map piece_of v.items) b c → Found (rest_of_term field k) room c no_pieces after →
    Builds (rest_of_term field l) room (RunTerm (piece_of first)) (term_of (record { first = now; more = v })) b after
pieces_end field room l k first now v b c after same so_far h = (
  pieces_onto (map piece_of v.items) no_pieces,
  so_far.leads.finds no_pieces after h,
  term_of-is (record { first = now; more = v }) ∙ (ap (λ z. RunTerm (piece_of z) (pieces_of (map piece_of v.items))) same ∙ ap (RunTerm (piece_of first)) (sym (pieces_all (map piece_of v.items)))),
)

-- a term from its first piece
pub term_from : (field : Bool) (room : ℕ) (p : PieceNode) (l : rust_last.Last) (b c after : List MarkedToken) (r : Result TermNode Refusal) → IsPieceOf field room start b c (Some (p, l)) → ReadsRestOfTerm field room (last_seen l) (piece_of p) c r after → Reads (term_form field) room term_of b r after
term_from field room p l b c after r h given =
    let leads = leads_on (term_form field) (rest_of_term field start) (rest_of_term field (last_seen l)) room run_of (more_pieces (piece_of p)) b b c (begin_term field room b) h.0 in
    gives_through (term_form field) (rest_of_term field (last_seen l)) room (λ x. Found (term_form field) room b (term_of x) after) (λ x. Builds (rest_of_term field (last_seen l)) room (RunTerm (piece_of p)) (term_of x) c after) (RunTerm (piece_of p)) b c after r
    (λ x k. let F : TermData → Type 0 = λ z. Found (term_form field) room b z after in subst F (sym k.2) (leads.finds k.0 after k.1))
    leads given

pub no_term : (field : Bool) (room : ℕ) (b after : List MarkedToken) → IsPieceOf field room start b after None → Fails (term_form field) room b after
no_term field room b after h = (begin_term field room b).fails after (term_stops field room start b after (λ e. e) h)

-- Terms, with list commas.
abbrev pub with_sign : Next Place TermNode → Place × TermData
with_sign n = (n.sign, term_of n.tree)

pub next_seen : (ns : List (Next Place TermNode)) → next_terms (map with_sign ns) ≡ next_terms_of (map next_term_of ns)
next_seen [] = refl
next_seen (n ∷ ns) = ap (λ z. more_next_terms (NextNextTerm n.sign (term_of n.tree)) z) (next_seen ns)

abbrev pub Several : Bool → ℕ → List (Place × TermData) → List MarkedToken → List MarkedToken → Type 0
Several field room so_far b c = Chained (term_links field) (linked_terms field) room room tt tt [] so_far b c

pub several_none : (field : Bool) (room : ℕ) (so_far : List (Place × TermData)) (b : List MarkedToken) → so_far ≡ [] → Several field room so_far b b
several_none field room so_far b e = let P : List (Place × TermData) → Type 0 = λ z. Several field room z b b in subst P (sym e) (chained_none (term_links field) (linked_terms field) room tt [] b)

pub several_step : (field : Bool) (room : ℕ) (p : Place) (t : TermNode) (v w : List (Next Place TermNode)) (b c d e : List MarkedToken) → Several field room (map with_sign v) b c → w ≡ v ++ record { sign = p; tree = t } ∷ [] → c ≡ fixed signs.ListComma p ∷ d →
    Found (term_form field) room d (term_of t) e → Several field room (map with_sign w) b e
several_step field room p t v w b c d e so_far grown is found =
    chained_step (term_links field) (linked_terms field) room room room tt tt p (term_of t) [] (map with_sign v) (map with_sign w) b c d e so_far (map_push with_sign v w (record { sign = p; tree = t }) grown) refl tt is found

pub several_refused : (field : Bool) (room : ℕ) (p : Place) (so_far : List (Place × TermData)) (b c d after : List MarkedToken) (r : Refusal) → Several field room so_far b c → c ≡ fixed signs.ListComma p ∷ d → Refuses (term_form field) room d r after → Refuses (more_terms field) room b r after
several_refused field room p so_far b c d after r so is refused =
    passes_down (more_terms field) (more_terms field) room room (λ ps. so.taken ++ ps) b c after r so.leads (member_refused (term_links field) (linked_terms field) tt p room room c d after r refl tt is refused)

pub several_end : (field : Bool) (room : ℕ) (first now : TermNode) (v : Vec (Next Place TermNode) Global) (b c after : List MarkedToken) → now ≡ first → Several field room (map with_sign v.items) b c → TakesPlace signs.ListComma c None after →
    Builds (more_terms field) room (λ ps. ListTerms (term_of first) (next_terms ps)) (terms_of (record { first = now; more = v })) b after
several_end field room first now v b c after same so h =
    let F : List MarkedToken → Type 0 = λ z. Found (more_terms field) room c [] z in
    let k = chained_end (term_links field) (linked_terms field) room room tt tt [] (map with_sign v.items) b c after so (subst F h.0 (chain_ends (term_links field) (linked_terms field) tt room c (λ s may agrees. h.1 s agrees))) in
    (k.0, k.1, ap (λ z. ListTerms (term_of z) (next_terms_of (map next_term_of v.items))) same ∙ ap (ListTerms (term_of first)) (sym (next_seen v.items) ∙ ap next_terms k.2))

pub terms_apart_refuses : (field : Bool) (room : ℕ) (b after : List MarkedToken) (e : Refusal) → Refuses (term_form field) room b e after → Refuses (some_terms field) room b e after
terms_apart_refuses field room b after e h = first_refuses (term_form field) (λ _. more_terms field) (pair_apart (term_links field) (linked_terms field)) room b after e (λ a is. ([], tt)) h

pub terms_from : (field : Bool) (room : ℕ) (t : TermNode) (b c after : List MarkedToken) (r : Result (Chain Place TermNode) Refusal) → Found (term_form field) room b (term_of t) c → ReadsRestOfTerms field room (term_of t) c r after → Reads (terms_form field) room terms_of b r after
terms_from field room t b c after r found given =
    let leads = leads_on (terms_form field) (some_terms field) (more_terms field) room list_of (beside (term_form field) (λ _. more_terms field) (term_of t)) b b c (begin_terms field room b)
    (leads_behind (term_form field) (λ _. more_terms field) (pair_apart (term_links field) (linked_terms field)) room b c (term_of t) found) in
    gives_through (terms_form field) (more_terms field) room (λ x. Found (terms_form field) room b (terms_of x) after) (λ x. Builds (more_terms field) room (λ ps. ListTerms (term_of t) (next_terms ps)) (terms_of x) c after) (λ ps. ListTerms (term_of t) (next_terms ps)) b c after r
    (λ x k. let F : TermsData → Type 0 = λ z. Found (terms_form field) room b z after in subst F (sym k.2) (leads.finds k.0 after k.1))
    leads given

-- a base that begins with an identifier
pub call_read : (field behind : Bool) (room : ℕ) (w : Word) (b c after : List MarkedToken) (r : Result (Box BaseNode Global) Refusal) → Leads (base_form field behind) (call_form field) room (called w) b c → ReadsCall field room w c r after → Reads (base_form field behind) room base_in b r after
call_read field behind room w b c after r leads given =
    gives_through (base_form field behind) (call_form field) room (λ x. Found (base_form field behind) room b (base_in x) after) (λ x. Builds (call_form field) room (called w) (base_in x) c after) (called w) b c after r
    (λ x h. let F : BaseData → Type 0 = λ z. Found (base_form field behind) room b z after in subst F (sym h.2) (leads.finds h.0 after h.1))
    leads given

-- a base that is read as another form
pub base_read : (field behind : Bool) (room : ℕ) (K : Form MarkedToken) (make : K.Tree → BaseData) (b after : List MarkedToken) (r : Result (Box BaseNode Global) Refusal) → Leads (base_form field behind) K room make b b → Gives K room (λ x. Builds K room make (base_in x) b after) b r after → Reads (base_form field behind) room base_in b r after
base_read field behind room K make b after r leads given =
    gives_through (base_form field behind) K room (λ x. Found (base_form field behind) room b (base_in x) after) (λ x. Builds K room make (base_in x) b after) make b b after r
    (λ x h. let F : BaseData → Type 0 = λ z. Found (base_form field behind) room b z after in subst F (sym h.2) (leads.finds h.0 after h.1))
    leads given

-- a base in its box
pub boxed_gives : (F : Form MarkedToken) (room : ℕ) (P : BaseData → Type 0) (x : BaseNode) (y : BaseData) (b after : List MarkedToken) (r : Result (Box BaseNode Global) Refusal) → Boxes x r → base_of x ≡ y → P y → Gives F room (λ z. P (base_in z)) b r after
boxed_gives F room P x y b after (Ok z) h e p = subst P (sym (ap base_of h ∙ e)) p
boxed_gives F room P x y b after (Err e) h f p = let R : Refusal → Type 0 = λ z. Refuses F room b z after in subst R (sym h) tt

pub boxed_refuses : (F : Form MarkedToken) (room : ℕ) (x : BaseNode) (b after : List MarkedToken) (e : Refusal) → Boxes x (Err e) → Refuses F room b e after
boxed_refuses F room x b after e h = let R : Refusal → Type 0 = λ z. Refuses F room b z after in subst R (sym h) tt

-- a base of another form's tree, in its box
pub boxed_base : (field behind : Bool) (room : ℕ) (K : Form MarkedToken) (make : K.Tree → BaseData) (k : K.Tree) (x : BaseNode) (b c after : List MarkedToken) (r : Result (Box BaseNode Global) Refusal) → Leads (base_form field behind) K room make b c → Found K room c k after → base_of x ≡ make k → Boxes x r → Reads (base_form field behind) room base_in b r after
boxed_base field behind room K make k x b c after r leads found e h = boxed_gives (base_form field behind) room (λ y. Found (base_form field behind) room b y after) x (make k) b after r h e (leads.finds k after found)

pub boxed_found : (field behind : Bool) (room : ℕ) (y : BaseData) (x : BaseNode) (b after : List MarkedToken) (r : Result (Box BaseNode Global) Refusal) → Found (base_form field behind) room b y after → base_of x ≡ y → Boxes x r → Reads (base_form field behind) room base_in b r after
boxed_found field behind room y x b after r found e h = boxed_gives (base_form field behind) room (λ z. Found (base_form field behind) room b z after) x y b after r h e found

-- a tree of another form that is built into a base in its box
pub boxed_builds : (K : Form MarkedToken) (make : K.Tree → BaseData) (room : ℕ) (k : K.Tree) (x : BaseNode) (b after : List MarkedToken) (r : Result (Box BaseNode Global) Refusal) → Found K room b k after → base_of x ≡ make k → Boxes x r → Gives K room (λ z. Builds K room make (base_in z) b after) b r after
boxed_builds K make room k x b after r found e h = boxed_gives K room (λ y. Builds K room make y b after) x (make k) b after r h e (k, found, refl)

pub identifier_read : (field behind : Bool) (room : ℕ) (t : MarkedToken) (w : Word) (b rest after : List MarkedToken) (r : Result (Box BaseNode Global) Refusal) → sign_of t ≡ signs.Identifier → b ≡ t ∷ rest → w ≡ word_of t → ReadsCall field room w rest r after → Reads (base_form field behind) room base_in b r after
identifier_read field behind room t w b rest after r h e same given =
    let G : Word → Type 0 = λ z. ReadsCall field room z rest r after in
    call_read field behind room (word_of t) b rest after r (take_identifier field behind room t b rest h e) (subst G same given)

pub structure_read : (field behind : Bool) (room : ℕ) (t : MarkedToken) (w : Word) (b rest after : List MarkedToken) (r : Result (Box BaseNode Global) Refusal) → sign_of t ≡ signs.Structure → b ≡ t ∷ rest → w ≡ word_of t → ReadsAggregate field room w rest r after → Reads (base_form field behind) room base_in b r after
structure_read field behind room t w b rest after r h e same given =
    let G : Word → Type 0 = λ z. ReadsAggregate field room z rest r after in
    gives_through (base_form field behind) (aggregate field) room (λ x. Found (base_form field behind) room b (base_in x) after) (λ x. Builds (aggregate field) room (make_aggregate (word_of t)) (base_in x) rest after) (make_aggregate (word_of t)) b rest after r
    (λ x k. let F : BaseData → Type 0 = λ z. Found (base_form field behind) room b z after in subst F (sym k.2) ((take_structure field behind room t b rest h e).finds k.0 after k.1))
    (take_structure field behind room t b rest h e) (subst G same given)

pub group_read : (field behind : Bool) (room : ℕ) (t : MarkedToken) (b rest after : List MarkedToken) (r : Result (Box BaseNode Global) Refusal) → sign_of t ≡ signs.Open → b ≡ t ∷ rest → ReadsGroup field behind room b r after → Reads (base_form field behind) room base_in b r after
group_read field true room t b rest after r h e given = base_read field true room (single field) make_single b after r (begin_single field room t b rest h e) given
group_read field false room t b rest after r h e given = base_read field false room (bracket field signs.Open signs.Close) make_group b after r (begin_group field room t b rest h e) given

-- what stands last behind an operand at the start of a term
pub last_at_start : (o : OperandNode) (several : Bool) → is_several (base_in o.base) ≡ several → last_of start (operand_of o).base ≡ last_with several
last_at_start o several e = ap (λ z. last_with (is_several z.base)) (operand_of-is o) ∙ ap last_with e

-- one term, and no comma behind it
pub bracketed_of-single_seen : (p q : Place) (t : TermNode) (v : Vec (Next Place TermNode) Global) → v.items ≡ [] → bracketed_of (record { «open» = p; terms = record { first = t; more = v }; close = q }) ≡ one_bracketed (p, (term_of t, q))
bracketed_of-single_seen p q t v e = ap (λ z. (p, (ListTerms (term_of t) (next_terms_of (map next_term_of z)), q))) e

-- several terms in parentheses
pub not-several_group : (a : Place) (ts : Chain Place TermNode) (b : Place) (empty : Bool) → (empty ≡ true → ts.more.items ≡ []) → (ts.more.items ≡ [] → empty ≡ true) → not empty ≡ is_several (base_of (bases.Group a ts b))
not-several_group a ts b empty left right = go ts.more.items refl empty refl ∙ ap is_several (sym (base_of-group a ts b))
  where
    go : (ns : List (Next Place TermNode)) → ts.more.items ≡ ns → (e : Bool) → empty ≡ e → not empty ≡ is_several (GroupBase a (ListTerms (term_of ts.first) (next_terms_of (map next_term_of ts.more.items))) b)
    go [] f e g = ap not (right f) ∙ ap (λ z. is_several (GroupBase a (ListTerms (term_of ts.first) (next_terms_of (map next_term_of z))) b)) (sym f)
    go (n ∷ ns) f true g = absurd (clash (sym f ∙ left g))
      where
        clash : n ∷ ns ≡ [] → ⊥
        clash h = cc
    go (n ∷ ns) f false g = ap not g ∙ ap (λ z. is_several (GroupBase a (ListTerms (term_of ts.first) (next_terms_of (map next_term_of z))) b)) (sym f)

pub no_items : {X : Type 0} (xs : List X) → length xs ≡ 0 → xs ≡ []
no_items [] e = refl
no_items (x ∷ xs) e = absurd (omega (arith, e))

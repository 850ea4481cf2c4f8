-- The readings of definientia with cases.
use Rattle.std.specs.Prelude.{codes}
use Rattle.std.specs.List.{flat_map}
use Rattle.std.proofs.Common.{◌≡◌, ℕ, ◌+◌, ◌<◌, Bool, true, false, ◌||◌, List, [], ◌∷◌, ◌++◌, length, length-append, arith, refl, sym, ap, subst, ◌∙◌, append_assoc, Option, Some, None}
use Rattle.mz_base.specs.declared.place.Place.{Place}
use Rattle.mz_base.specs.declared.token.MarkedToken.{MarkedToken}
use Rattle.mz_forms.specs.declared.refusal.Refusal.{Refusal}
use Rattle.mz_forms.specs.Form.{Form, Agrees, Found, Leads, is_empty, then}
use Rattle.mz_forms.specs.Reading.{Builds, Refuses}
use Rattle.mz_forms.specs.Repeat.{maybe}
use Rattle.mz_forms.specs.Chain.{Links, chain, spell_chain, levels_chain, AreLinked}
use Rattle.mz_forms.proofs.Chain.{Linked, member_taken, member_refused, chain_ends}
use Rattle.mz_forms.proofs.Choose.{Reshapes}
use Rattle.mz_forms.proofs.Compose.{Apart, append_nil, head_of}
use Rattle.mz_forms.proofs.Descend.{Descends}
use Rattle.mz_forms.proofs.Leads.{leads_as, leads_behind, leads_on, leads_same, apart_closed, passes}
use Rattle.mz_forms.proofs.Lists.{Begun}
use Rattle.mz_forms.proofs.Maybe.{Starts, Lacks, begin_some, found_none}
use Rattle.mz_tree.specs.declared.chain.Next.{Next}
use Rattle.mz_tree.specs.declared.lists.Separated.{Separated}
use Rattle.mz_tree.specs.declared.word.Comma.{Comma}
use Rattle.mz_tree.specs.Spelled.{comma_token, list_comma, mark_of, marked}
use Rattle.mz_tree.specs.Trees.{FormulaData}
use Rattle.mz_tree.specs.Spell.{spell_formula}
use Rattle.mz_tree.specs.Levels.{levels_formula}
use Rattle.mz_tree.specs.Lists.{spell_next, levels_next, AreBehind}
use Rattle.mz_tree.specs.Rules.{DividesAfter}
use Rattle.mz_tree_heading.specs.declared.meaning.CaseTree.{CaseTree}
use Rattle.mz_tree_heading.specs.declared.meaning.CasesTree.{CasesTree}
use Rattle.mz_tree_heading.specs.declared.meaning.CasesTree.TheVariants as cases_tree
use Rattle.mz_tree_heading.specs.declared.meaning.OtherwiseTree.{OtherwiseTree}
use Rattle.mz_tree_heading.specs.Rules.{case_ends_in_terms, formula_ends_in_terms, IsCase}
use Rattle.mz_base.specs.declared.token.TokenKind.TheVariants as kinds
use Rattle.mz_pterm.specs.declared.sign.Sign.{Sign}
use Rattle.mz_pterm.specs.declared.sign.Sign.TheVariants as signs
use Rattle.mz_pterm.specs.Sign.{sign_of}
use Rattle.mz_ptype.specs.Forms.{is_comma, TakesComma}
use Rattle.mz_ptype.proofs.DeclarationSteps.{comma_kind, comma_signed, comma_told}
use Rattle.mz_ptype.proofs.Optional.{never}
use Rattle.mz_patom.specs.Classes.{goes_open}
use Rattle.mz_pformula.specs.Forms.{any_operator, formula_takes}
use Rattle.mz_pformula.proofs.Operators.{goes_weaker}
use Rattle.mz_pformula.proofs.Quantifiers.{some_formula}
use Rattle.mz_pjustification.proofs.Taken.{or_goes}
use Rattle.mz_ppattern.specs.Words.{is_word, word_form, word_token, TakesOne}
use Rattle.mz_ppattern.proofs.WordSteps.{one_found, word_own, word_same, word_told}
use Rattle.mz_pmeaning.specs.Classes.{goes_condition, goes_on_cases, goes_on_meaning, NoComma}
use Rattle.mz_pmeaning.specs.CaseForms.{case_form, case_links, cases_form, cases_from, condition_form, further_cases, listed_cases, next_cases, optional_otherwise, otherwise_form}
use Rattle.mz_pmeaning.proofs.Bodies.{IsBody, if_signed, otherwise_signed}
use Rattle.mz_pmeaning.proofs.Steps.{next, stopped, apart_unsigned, sign_of-unsigned_then, append-grouped, or_left, or_right, Unsigned}

-- What goes on a condition.
condition_on : (f : FormulaData) (s : Sign) → goes_condition f s ≡ true → goes_on_cases s ≡ true
condition_on f signs.ListComma g = refl
condition_on f s g = or_left (goes_open any_operator s) (is_comma s) (goes_weaker (formula_takes f) any_operator (λ o h. refl) s g)

kind_on : (d : Bool) → goes_on_cases (comma_kind d) ≡ true
kind_on true = refl
kind_on false = refl

condition_comma : (f : FormulaData) (c : Comma) → DividesAfter (formula_ends_in_terms f) c → goes_condition f (sign_of (comma_token c)) ≡ true → ⊥
condition_comma f c may g = go c.dividing refl (sym (ap (goes_condition f) (comma_signed c)) ∙ g)
  where
    clash : (d : Bool) → d ≡ true → d ≡ false → ⊥
    clash true h i = cc
    clash false h i = cc

    go : (d : Bool) → c.dividing ≡ d → goes_condition f (comma_kind d) ≡ true → ⊥
    go true h i = never i
    go false h i = let D : Bool → Type 0 = λ z. DividesAfter z c in clash c.dividing (subst D i may) h

-- The comma that was taken may stand there.
abbrev pub Quiet : List MarkedToken → Type 0
Quiet b = (p : Place) → Agrees b (list_comma p ∷ []) → ⊥

divides : (so : Bool) (c : Comma) (b rest : List MarkedToken) → (so ≡ true → Quiet b) → b ≡ comma_token c ∷ rest → DividesAfter so c
divides false c b rest quiet e = tt
divides true c b rest quiet e = go c.dividing refl
  where
    go : (d : Bool) → c.dividing ≡ d → c.dividing ≡ true
    go true h = h
    go false h =
        let A : List MarkedToken → Type 0 = λ z. Agrees z (list_comma c.place ∷ []) in
        absurd (quiet refl c.place (subst A (sym e) (ap (λ z. marked kinds.Special c.place (codes ",") 0 (mark_of z)) (sym h))))

module _ (B : Form MarkedToken) (body : IsBody B) where
  abbrev L : Links MarkedToken
  L = case_links B

  pub linked_cases : Linked (case_links B)
  linked_cases = record {
    told = λ a b e. comma_told a b e;
    weaker = λ x t is g. condition_on x.condition (sign_of t) g;
    on = λ c. ap goes_on_cases (comma_signed c) ∙ kind_on c.dividing;
    apart = λ x c is may g. condition_comma x.condition c may g;
  }

  -- Lists of further cases.
  abbrev pub pairs : List (Next Comma (CaseTree B.Tree)) → List (Comma × CaseTree B.Tree)
  pairs [] = []
  pairs (n ∷ ns) = (n.sign, n.tree) ∷ pairs ns

  back : (ns : List (Next Comma (CaseTree B.Tree))) → ns ≡ next_cases (pairs ns)
  back [] = refl
  back (n ∷ ns) = ap (λ z. n ∷ z) (back ns)

  pairs_push : (ns : List (Next Comma (CaseTree B.Tree))) (c : Comma) (x : CaseTree B.Tree) → pairs (ns ++ record { sign = c; tree = x } ∷ []) ≡ pairs ns ++ (c, x) ∷ []
  pairs_push [] c x = refl
  pairs_push (n ∷ ns) c x = ap (λ z. (n.sign, n.tree) ∷ z) (pairs_push ns c x)

  list_spells : (ps : List (Comma × CaseTree B.Tree)) → flat_map (spell_next (case_form B).spell) (next_cases ps) ≡ spell_chain L ps
  list_spells [] = refl
  list_spells (p ∷ ps) = ap (λ z. comma_token p.0 ∷ ((case_form B).spell p.1 ++ z)) (list_spells ps)

  list_levels : (ps : List (Comma × CaseTree B.Tree)) → flat_map (levels_next (case_form B).levels) (next_cases ps) ≡ levels_chain L ps
  list_levels [] = refl
  list_levels (p ∷ ps) = ap (λ z. 0 ∷ ((case_form B).levels p.1 ++ z)) (list_levels ps)

  list_into : (b : Bool) (ps : List (Comma × CaseTree B.Tree)) → AreLinked L b ps → AreBehind (IsCase B.IsTree) case_ends_in_terms b (next_cases ps)
  list_into b [] h = tt
  list_into b (p ∷ ps) h = (h.0, h.1, list_into (case_ends_in_terms p.1) ps h.2)

  list_from : (b : Bool) (ns : List (Next Comma (CaseTree B.Tree))) → AreBehind (IsCase B.IsTree) case_ends_in_terms b ns → AreLinked L b (pairs ns)
  list_from b [] h = tt
  list_from b (n ∷ ns) h = (h.0, h.1, list_from (case_ends_in_terms n.tree) ns h.2)

  pub condition_apart : Apart condition_form (further_cases B)
  condition_apart f [] s x isf isk e g = cc
  condition_apart f (p ∷ ps) s x isf isk e g = let G : MarkedToken → Type 0 = λ z. goes_condition f (sign_of z) ≡ true in condition_comma f p.0 isk.0 (subst G (sym (head_of _ _ _ _ e)) g)

  -- From the first case to those so far. `x` and `p` are its body and its `if`.
  pub record CasesSoFar (room : ℕ) (x : B.Tree) (p : Place) (first : CaseTree B.Tree) (ns : List (Next Comma (CaseTree B.Tree))) (b d : List MarkedToken) : Type 0 where
    pub so : Bool
    pub same : first.body ≡ x
    pub placed : first.if_ ≡ p
    pub leads : Leads (listed_cases B) (chain L so) room (λ ps. (first.condition, pairs ns ++ ps)) b d
    pub quiet : so ≡ true → Quiet d

  pub cases_begun : (room : ℕ) (x : B.Tree) (p : Place) (first : CaseTree B.Tree) (ns : List (Next Comma (CaseTree B.Tree))) (b c : List MarkedToken) → first.body ≡ x → first.if_ ≡ p → Found condition_form room b first.condition c → NoComma first.condition c → ns ≡ [] → CasesSoFar room x p first ns b c
  cases_begun room x p first ns b c same placed found quiet none = record {
    so = formula_ends_in_terms first.condition;
    same = same;
    placed = placed;
    leads = let N : List (Next Comma (CaseTree B.Tree)) → Type 0 = λ z. Leads (listed_cases B) (further_cases B first.condition) room (λ ps. (first.condition, pairs z ++ ps)) b c in
        subst N (sym none) (leads_behind condition_form (further_cases B) condition_apart room b c first.condition found);
    quiet = quiet;
  }

  as_leads : (F G : Form MarkedToken) (room : ℕ) (build : G.Tree → F.Tree) (b c : List MarkedToken) → Descends F G room room build b c → Leads F G room build b c
  as_leads F G room build b c d = record { finds = d.finds; fails = d.fails; deeper = d.deeper }

  pub cases_step : (room : ℕ) (x : B.Tree) (p : Place) (first : CaseTree B.Tree) (ns ms : List (Next Comma (CaseTree B.Tree))) (c : Comma) (y : CaseTree B.Tree) (b d e g : List MarkedToken) → CasesSoFar room x p first ns b d → d ≡ comma_token c ∷ e → Found (case_form B) room e y g → NoComma y.condition g → ms ≡ ns ++ record { sign = c; tree = y } ∷ [] → CasesSoFar room x p first ms b g
  cases_step room x p first ns ms c y b d e g so_far taken found quiet grown = record {
    so = case_ends_in_terms y;
    same = so_far.same;
    placed = so_far.placed;
    leads = let N : List (Next Comma (CaseTree B.Tree)) → Type 0 = λ z. Leads (listed_cases B) (chain L (case_ends_in_terms y)) room (λ ps. (first.condition, pairs z ++ ps)) b g in
        subst N (sym grown)
        (leads_same (listed_cases B) (chain L (case_ends_in_terms y)) room (λ ps. (first.condition, pairs ns ++ (c, y) ∷ ps)) (λ ps. (first.condition, pairs (ns ++ record { sign = c; tree = y } ∷ []) ++ ps)) b g
        (λ ps. ap (λ z. (first.condition, z)) (sym (append_assoc (pairs ns) ((c, y) ∷ []) ps) ∙ ap (λ z. z ++ ps) (sym (pairs_push ns c y))))
        (leads_on (listed_cases B) (chain L so_far.so) (chain L (case_ends_in_terms y)) room (λ ps. (first.condition, pairs ns ++ ps)) (λ ps. (c, y) ∷ ps) b d g so_far.leads
        (as_leads (chain L so_far.so) (chain L (case_ends_in_terms y)) room (λ ps. (c, y) ∷ ps) d g (member_taken L linked_cases so_far.so c y room room d e g refl (divides so_far.so c d e so_far.quiet taken) taken found))));
    quiet = quiet;
  }

  pub cases_stopped : (room : ℕ) (x : B.Tree) (p : Place) (first : CaseTree B.Tree) (ns : List (Next Comma (CaseTree B.Tree))) (c : Comma) (b d e after : List MarkedToken) (r : Refusal) → CasesSoFar room x p first ns b d → d ≡ comma_token c ∷ e → Refuses (case_form B) room e r after → Refuses (listed_cases B) room b r after
  cases_stopped room x p first ns c b d e after r so_far taken refused = passes (listed_cases B) (chain L so_far.so) room (λ ps. (first.condition, pairs ns ++ ps)) b d after r so_far.leads (member_refused L linked_cases so_far.so c room room d e after r refl (divides so_far.so c d e so_far.quiet taken) taken refused)

  rebuilt : (first : CaseTree B.Tree) (x : B.Tree) (p : Place) → first.body ≡ x → first.if_ ≡ p → first ≡ record { body = x; if_ = p; condition = first.condition }
  rebuilt first x p e f = ap (λ z. record { body = z; if_ = first.if_; condition = first.condition }) e ∙ ap (λ z. record { body = x; if_ = z; condition = first.condition }) f

  pub cases_listed : (room : ℕ) (x : B.Tree) (p : Place) (first : CaseTree B.Tree) (ns : List (Next Comma (CaseTree B.Tree))) (b d after : List MarkedToken) → CasesSoFar room x p first ns b d → TakesComma false d None after → Builds (listed_cases B) room (cases_from x p) (record { first = first; more = ns }) b after
  cases_listed room x p first ns b d after so_far none =
      let F : List MarkedToken → Type 0 = λ z. Found (chain L so_far.so) room d [] z in
      let N : List (Comma × CaseTree B.Tree) → Type 0 = λ z. Found (listed_cases B) room b (first.condition, z) after in (
        (first.condition, pairs ns),
        subst N (nil (pairs ns)) (so_far.leads.finds [] after (subst F none.0 (chain_ends L linked_cases so_far.so room d (λ c may agrees. none.1 c tt agrees)))),
        ap (λ z. record { first = z; more = ns }) (rebuilt first x p so_far.same so_far.placed) ∙ ap (λ z. record { first = record { body = x; if_ = p; condition = first.condition }; more = z }) (back ns),
      )
    where
      nil : (ps : List (Comma × CaseTree B.Tree)) → ps ++ [] ≡ ps
      nil [] = refl
      nil (q ∷ ps) = ap (λ z. q ∷ z) (nil ps)

  pub shorter_cases : (c : Comma) (room : ℕ) (y : CaseTree B.Tree) (d e g : List MarkedToken) → d ≡ comma_token c ∷ e → Found (case_form B) room e y g → length g < length d
  shorter_cases c room y d e g taken h =
      let f : length d ≡ length (comma_token c ∷ e) = ap length taken in
      let k : length e ≡ length ((case_form B).spell y ++ g) = ap length h.found.split in
      let i : length ((case_form B).spell y ++ g) ≡ length ((case_form B).spell y) + length g = length-append ((case_form B).spell y) g in
      omega (arith, f, k, i)

  -- A body, and what stands behind it: `if`, cases and what holds otherwise, or nothing.
  abbrev pub behind_list : Form MarkedToken
  behind_list = then (listed_cases B) (λ _. optional_otherwise B)

  abbrev pub behind_if : Form MarkedToken
  behind_if = then (word_form (codes "if")) (λ _. behind_list)

  abbrev pub is_if : MarkedToken → Bool
  is_if t = is_word (codes "if") t

  abbrev pub behind_body : Form MarkedToken
  behind_body = maybe behind_if is_if

  abbrev pub parts_of_cases : Form MarkedToken
  parts_of_cases = then B (λ _. behind_body)

  abbrev pub cases_with : B.Tree → Option behind_if.Tree → CasesTree B.Tree
  cases_with x None = cases_tree.Plain x
  cases_with x (Some k) = cases_tree.Cases (cases_from x k.0 k.1.0) k.1.1

  abbrev pub make_cases : parts_of_cases.Tree → CasesTree B.Tree
  make_cases k = cases_with k.0 k.1

  cases_into : (x : B.Tree) (o : Option behind_if.Tree) → B.IsTree x → behind_body.IsTree o → (cases_form B).IsTree (cases_with x o)
  cases_into x None isx is = isx
  cases_into x (Some k) isx is = (((isx, is.1.0.0), list_into (formula_ends_in_terms k.1.0.0) k.1.0.1 is.1.0.1), is.1.1)

  cases_spells : (x : B.Tree) (o : Option behind_if.Tree) → (cases_form B).spell (cases_with x o) ≡ parts_of_cases.spell (x, o)
  cases_spells x None = sym (append_nil (B.spell x))
  cases_spells x (Some k) =
      ap (λ z. ((B.spell x ++ word_token (codes "if") k.0 ∷ spell_formula k.1.0.0) ++ z) ++ (optional_otherwise B).spell k.1.1) (list_spells k.1.0.1) ∙
      append-grouped (B.spell x) (word_token (codes "if") k.0 ∷ spell_formula k.1.0.0) (spell_chain L k.1.0.1) ((optional_otherwise B).spell k.1.1) ∙
      ap (λ z. B.spell x ++ word_token (codes "if") k.0 ∷ z) (sym (append_assoc (spell_formula k.1.0.0) (spell_chain L k.1.0.1) ((optional_otherwise B).spell k.1.1)))

  cases_levels : (x : B.Tree) (o : Option behind_if.Tree) → (cases_form B).levels (cases_with x o) ≡ parts_of_cases.levels (x, o)
  cases_levels x None = sym (append_nil (B.levels x))
  cases_levels x (Some k) =
      ap (λ z. ((B.levels x ++ 0 ∷ levels_formula k.1.0.0) ++ z) ++ (optional_otherwise B).levels k.1.1) (list_levels k.1.0.1) ∙
      append-grouped (B.levels x) (0 ∷ levels_formula k.1.0.0) (levels_chain L k.1.0.1) ((optional_otherwise B).levels k.1.1) ∙
      ap (λ z. B.levels x ++ 0 ∷ z) (sym (append_assoc (levels_formula k.1.0.0) (levels_chain L k.1.0.1) ((optional_otherwise B).levels k.1.1)))

  pub only_cases : (x : CasesTree B.Tree) → (cases_form B).IsTree x → (k : parts_of_cases.Tree) × parts_of_cases.IsTree k × (x ≡ make_cases k)
  only_cases (cases_tree.Plain x) is = ((x, None), (is, tt), refl)
  only_cases (cases_tree.Cases s o) is = (
    (s.first.body, Some (s.first.if_, ((s.first.condition, pairs s.more), o))),
    (is.0.0.0, (tt, ((is.0.0.1, list_from (formula_ends_in_terms s.first.condition) s.more is.0.1), is.1))),
    ap (λ z. cases_tree.Cases (record { first = s.first; more = z }) o) (back s.more),
  )

  -- what goes on the parts
  body_on : (x : B.Tree) (t : MarkedToken) → B.IsTree x → B.goes x t ≡ true → goes_on_meaning t ≡ true
  body_on x t is g = or_left (goes_on_cases (sign_of t)) (is_word (codes "if") t || is_word (codes "otherwise") t) (or_left (goes_open any_operator (sign_of t)) (is_comma (sign_of t)) (body.goes x t is g))

  listed_on : (k : (listed_cases B).Tree) (t : MarkedToken) → (listed_cases B).goes k t ≡ true → goes_on_cases (sign_of t) ≡ true
  listed_on k t g = or_goes (goes_on_cases (sign_of t)) (goes_condition k.0 (sign_of t)) (is_empty (spell_chain L k.1)) (goes_on_cases (sign_of t)) (λ h. h) (λ h. condition_on k.0 (sign_of t) h) g

  otherwise_on : (o : Option (OtherwiseTree B.Tree)) (t : MarkedToken) → (optional_otherwise B).IsTree o → (optional_otherwise B).goes o t ≡ true → goes_on_meaning t ≡ true
  otherwise_on None t is g = or_right (goes_on_cases (sign_of t)) (is_word (codes "if") t || is_word (codes "otherwise") t) (or_right (is_word (codes "if") t) (is_word (codes "otherwise") t) g)
  otherwise_on (Some y) t is g = body_on y.body t is g

  behind_on : (o : Option behind_if.Tree) (t : MarkedToken) → behind_body.IsTree o → behind_body.goes o t ≡ true → goes_on_meaning t ≡ true
  behind_on None t is g = or_right (goes_on_cases (sign_of t)) (is_word (codes "if") t || is_word (codes "otherwise") t) (or_left (is_word (codes "if") t) (is_word (codes "otherwise") t) g)
  behind_on (Some k) t is g = or_goes (behind_list.goes k.1 t) false (is_empty (behind_list.spell k.1)) (goes_on_meaning t)
      (λ h. or_goes ((optional_otherwise B).goes k.1.1 t) ((listed_cases B).goes k.1.0 t) (is_empty ((optional_otherwise B).spell k.1.1)) (goes_on_meaning t) (λ i. otherwise_on k.1.1 t is.1.1 i)
      (λ i. or_left (goes_on_cases (sign_of t)) (is_word (codes "if") t || is_word (codes "otherwise") t) (listed_on k.1.0 t i)) h) (λ h. absurd (never h)) g

  pub cases_on : (k : parts_of_cases.Tree) (t : MarkedToken) → parts_of_cases.IsTree k → parts_of_cases.goes k t ≡ true → goes_on_meaning t ≡ true
  cases_on k t is g = or_goes (behind_body.goes k.1 t) (B.goes k.0 t) (is_empty (behind_body.spell k.1)) (goes_on_meaning t) (λ h. behind_on k.1 t is.1 h) (λ h. body_on k.0 t is.0 h) g

  pub as_cases : (b : List MarkedToken) → Reshapes (cases_form B) parts_of_cases make_cases b
  as_cases b = record {
    into = λ k is. cases_into k.0 k.1 is.0 is.1;
    spells = λ k is. cases_spells k.0 k.1;
    only = λ x is g. only_cases x is;
    goes = λ k t is g. cases_on k t is g;
    level = λ k is. cases_levels k.0 k.1;
  }

  begin_cases : (room : ℕ) (b : List MarkedToken) → Leads (cases_form B) parts_of_cases room make_cases b b
  begin_cases room b = leads_as (cases_form B) parts_of_cases make_cases room b (as_cases b)

  pub body_apart : Apart B (λ _. behind_body)
  body_apart = apart_unsigned B behind_body (goes_open any_operator) (λ a t is g. body.goes a t is g) refl unsigned
    where
      unsigned : Unsigned behind_body
      unsigned None t m is e = cc
      unsigned (Some k) t m is e = sign_of-unsigned_then (word_token (codes "if")) (λ _. behind_list) if_signed k t m e

  pub listed_apart : Apart (listed_cases B) (λ _. optional_otherwise B)
  listed_apart = apart_unsigned (listed_cases B) (optional_otherwise B) goes_on_cases (λ a t is g. listed_on a t g) refl unsigned
    where
      unsigned : Unsigned (optional_otherwise B)
      unsigned None t m is e = cc
      unsigned (Some y) t m is e = sign_of-unsigned_then (word_token (codes "otherwise")) (λ _. B) otherwise_signed (y.otherwise, y.body) t m e

  pub if_apart : Apart (word_form (codes "if")) (λ _. behind_list)
  if_apart = apart_closed (word_form (codes "if")) (λ _. behind_list) (λ a t. refl)

  pub body_unread : (room : ℕ) (b after : List MarkedToken) (e : Refusal) → Refuses B room b e after → Refuses (cases_form B) room b e after
  body_unread room b after e h = stopped (cases_form B) B (λ _. behind_body) body_apart room b b make_cases (begin_cases room b) after e (λ a is. (None, tt)) h

  pub starts_if : Starts behind_if is_if
  starts_if = record {
    filled = λ x is e. cc;
    first = λ x t m is e. ap is_if (sym (head_of _ _ _ _ e)) ∙ word_own (codes "if") x.0;
  }

  begun_if : (t : MarkedToken) → is_if t ≡ true → Begun behind_if t
  begun_if t h = ((t.token.place, ((some_formula, []), None)), ((spell_formula some_formula ++ []) ++ []), (tt, ((((tt, tt), tt), tt), tt)), ap (λ z. z ∷ ((spell_formula some_formula ++ []) ++ [])) (sym (word_told (codes "if") t h)))

  lacks : (c : List MarkedToken) → ((p : Place) → Agrees c (word_token (codes "if") p ∷ []) → ⊥) → Lacks behind_if is_if starts_if c
  lacks [] h = tt
  lacks (t ∷ c) h = λ g. h t.token.place (sym (word_told (codes "if") t g))

  module _ (room : ℕ) (b : List MarkedToken) (x : B.Tree) (c : List MarkedToken) (found : Found B room b x c) where
    at_body : Leads (cases_form B) behind_body room (cases_with x) b c
    at_body = next (cases_form B) B (λ _. behind_body) body_apart room b b make_cases (begin_cases room b) x c found

    pub plain_found : (after : List MarkedToken) → TakesOne (word_token (codes "if")) c None after → Found (cases_form B) room b (cases_tree.Plain x) after
    plain_found after none = let F : List MarkedToken → Type 0 = λ z. Found (cases_form B) room b (cases_tree.Plain x) z in subst F none.0 (at_body.finds None c (found_none behind_if is_if starts_if room c (lacks c none.1)))

    module _ (p : Place) (d : List MarkedToken) (taken : TakesOne (word_token (codes "if")) c (Some p) d) where
      at_some : Leads (cases_form B) behind_if room (λ k. cases_with x (Some k)) b c
      at_some = leads_on (cases_form B) behind_body behind_if room (cases_with x) Some b c c at_body (begin_some behind_if is_if starts_if room (word_token (codes "if") p) c d (word_own (codes "if") p) (begun_if (word_token (codes "if") p) (word_own (codes "if") p)) taken)

      at_if : Leads (cases_form B) behind_list room (λ k. cases_with x (Some (p, k))) b d
      at_if = next (cases_form B) (word_form (codes "if")) (λ _. behind_list) if_apart room b c (λ k. cases_with x (Some k)) at_some p d (one_found (word_token (codes "if")) is_if (word_own (codes "if")) (word_told (codes "if")) (word_same (codes "if")) room p c d taken)

      pub list_stopped : (after : List MarkedToken) (e : Refusal) → Refuses (listed_cases B) room d e after → Refuses (cases_form B) room b e after
      list_stopped after e h = stopped (cases_form B) (listed_cases B) (λ _. optional_otherwise B) listed_apart room b d (λ k. cases_with x (Some (p, k))) at_if after e (λ a is. (None, tt)) h

      pub otherwise_stopped : (s : Separated (CaseTree B.Tree)) (f after : List MarkedToken) (e : Refusal) → Builds (listed_cases B) room (cases_from x p) s d f → Refuses (optional_otherwise B) room f e after → Refuses (cases_form B) room b e after
      otherwise_stopped s f after e listed h = passes (cases_form B) (optional_otherwise B) room (λ o. cases_with x (Some (p, (listed.0, o)))) b f after e
          (next (cases_form B) (listed_cases B) (λ _. optional_otherwise B) listed_apart room b d (λ k. cases_with x (Some (p, k))) at_if listed.0 f listed.1) h

      pub cases_found : (s : Separated (CaseTree B.Tree)) (f after : List MarkedToken) (o : Option (OtherwiseTree B.Tree)) → Builds (listed_cases B) room (cases_from x p) s d f → Found (optional_otherwise B) room f o after → Found (cases_form B) room b (cases_tree.Cases s o) after
      cases_found s f after o listed h =
          let F : Separated (CaseTree B.Tree) → Type 0 = λ z. Found (cases_form B) room b (cases_tree.Cases z o) after in
          subst F (sym listed.2) ((next (cases_form B) (listed_cases B) (λ _. optional_otherwise B) listed_apart room b d (λ k. cases_with x (Some (p, k))) at_if listed.0 f listed.1).finds o after h)

  -- What holds otherwise.
  pub starts_otherwise : Starts (otherwise_form B) (is_word (codes "otherwise"))
  starts_otherwise = record {
    filled = λ x is e. cc;
    first = λ x t m is e. ap (is_word (codes "otherwise")) (sym (head_of _ _ _ _ e)) ∙ word_own (codes "otherwise") x.otherwise;
  }

  pub begun_otherwise : (t : MarkedToken) → is_word (codes "otherwise") t ≡ true → Begun (otherwise_form B) t
  begun_otherwise t h = (record { otherwise = t.token.place; body = body.some }, B.spell body.some, body.some_is, ap (λ z. z ∷ B.spell body.some) (sym (word_told (codes "otherwise") t h)))

  -- The first token of a definiens.
  first_of_body : (x : B.Tree) (w : List MarkedToken) (t : MarkedToken) (m : List MarkedToken) → B.IsTree x → B.spell x ++ w ≡ t ∷ m → sign_of t ≡ signs.Other → ⊥
  first_of_body x w t m is e h = go (B.spell x) refl
    where
      go : (v : List MarkedToken) → B.spell x ≡ v → ⊥
      go [] f = body.filled x is f
      go (s ∷ v) f =
          let g : s ∷ (v ++ w) ≡ t ∷ m = ap (λ z. z ++ w) (sym f) ∙ e in
          body.first x s v is f (ap sign_of (head_of _ _ _ _ g) ∙ h)

  pub cases_first : (x : CasesTree B.Tree) (t : MarkedToken) (m : List MarkedToken) → (cases_form B).IsTree x → (cases_form B).spell x ≡ t ∷ m → sign_of t ≡ signs.Other → ⊥
  cases_first (cases_tree.Plain x) t m is e h = body.first x t m is e h
  cases_first (cases_tree.Cases s o) t m is e h = first_of_body s.first.body _ t m is.0.0.0
      (sym (append-grouped (B.spell s.first.body) (word_token (codes "if") s.first.if_ ∷ spell_formula s.first.condition) (flat_map (spell_next (case_form B).spell) s.more) ((optional_otherwise B).spell o)) ∙ e) h

  pub cases_some : (x : CasesTree B.Tree) → (cases_form B).IsTree x → is_empty ((cases_form B).spell x) ≡ false
  cases_some x is = not_empty ((cases_form B).spell x) (λ e. filled x is e)
    where
      not_empty : (w : List MarkedToken) → (w ≡ [] → ⊥) → is_empty w ≡ false
      not_empty [] h = absurd (h refl)
      not_empty (t ∷ w) h = refl

      left_nil : (v w : List MarkedToken) → v ++ w ≡ [] → v ≡ []
      left_nil [] w f = refl
      left_nil (s ∷ v) w f = cc

      filled : (x : CasesTree B.Tree) → (cases_form B).IsTree x → (cases_form B).spell x ≡ [] → ⊥
      filled (cases_tree.Plain x) is e = body.filled x is e
      filled (cases_tree.Cases s o) is e = body.filled s.first.body is.0.0.0 (left_nil (B.spell s.first.body) _
          (sym (append-grouped (B.spell s.first.body) (word_token (codes "if") s.first.if_ ∷ spell_formula s.first.condition) (flat_map (spell_next (case_form B).spell) s.more) ((optional_otherwise B).spell o)) ∙ e))

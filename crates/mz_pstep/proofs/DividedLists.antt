-- The readings of lists with commas.
use Rattle.std.specs.List.{flat_map}
use Rattle.std.proofs.Common.{◌≡◌, ℕ, zero, suc, ◌+◌, ◌<◌, length, length-append, arith, Bool, true, List, [], ◌∷◌, ◌++◌, refl, sym, ap, subst, append_assoc, None}
use Rattle.mz_base.specs.declared.token.MarkedToken.{MarkedToken}
use Rattle.mz_forms.specs.declared.refusal.Refusal.{Refusal}
use Rattle.mz_forms.specs.Form.{Form, Found, Leads, is_empty, then}
use Rattle.mz_forms.specs.Reading.{Refuses}
use Rattle.mz_forms.specs.Chain.{Links, chain, spell_chain, levels_chain, AreLinked}
use Rattle.mz_forms.proofs.Chain.{Linked, pair_apart, member_taken, member_refused, chain_ends, one_chain}
use Rattle.mz_forms.proofs.Choose.{Reshapes}
use Rattle.mz_forms.proofs.Descend.{Descends}
use Rattle.mz_forms.proofs.Leads.{leads_as, leads_behind, leads_on, leads_same, beside, passes, first_refuses}
use Rattle.mz_forms.proofs.Lists.{either}
use Rattle.mz_forms.proofs.One.{One, one_zero, one_as, one_then}
use Rattle.mz_tree.specs.declared.word.Comma.{Comma}
use Rattle.mz_tree.specs.declared.chain.Next.{Next}
use Rattle.mz_tree.specs.declared.lists.Separated.{Separated}
use Rattle.mz_tree.specs.Spelled.{comma_token}
use Rattle.mz_tree.specs.Lists.{spell_next, levels_next, AreBehind, AreDivided}
use Rattle.mz_tree.specs.Rules.{DividesAfter}
use Rattle.mz_pterm.specs.declared.sign.Sign.{Sign}
use Rattle.mz_pterm.specs.Sign.{sign_of}
use Rattle.mz_ptype.specs.Forms.{TakesComma}
use Rattle.mz_pstep.specs.Forms.{links, divided}

module _ (X : Form MarkedToken) (ends : X.Tree → Bool) (goes : Sign → Bool) (by : Linked (links X ends goes)) where
  abbrev L : Links MarkedToken
  L = links X ends goes

  abbrev pub next : Comma → X.Tree → Next Comma X.Tree
  next c x = record { sign = c; tree = x }

  abbrev pub pairs : List (Next Comma X.Tree) → List (Comma × X.Tree)
  pairs [] = []
  pairs (n ∷ ns) = (n.sign, n.tree) ∷ pairs ns

  abbrev pub unpaired : List (Comma × X.Tree) → List (Next Comma X.Tree)
  unpaired [] = []
  unpaired (p ∷ ps) = next p.0 p.1 ∷ unpaired ps

  back : (ns : List (Next Comma X.Tree)) → ns ≡ unpaired (pairs ns)
  back [] = refl
  back (n ∷ ns) = ap (λ z. n ∷ z) (back ns)

  list_spells : (ps : List (Comma × X.Tree)) → flat_map (spell_next X.spell) (unpaired ps) ≡ spell_chain L ps
  list_spells [] = refl
  list_spells (p ∷ ps) = ap (λ z. comma_token p.0 ∷ (X.spell p.1 ++ z)) (list_spells ps)

  list_levels : (ps : List (Comma × X.Tree)) → flat_map (levels_next X.levels) (unpaired ps) ≡ levels_chain L ps
  list_levels [] = refl
  list_levels (p ∷ ps) = ap (λ z. 0 ∷ (X.levels p.1 ++ z)) (list_levels ps)

  list_into : (b : Bool) (ps : List (Comma × X.Tree)) → AreLinked L b ps → AreBehind X.IsTree ends b (unpaired ps)
  list_into b [] h = tt
  list_into b (p ∷ ps) h = (h.0, h.1, list_into (ends p.1) ps h.2)

  list_from : (b : Bool) (ns : List (Next Comma X.Tree)) → AreBehind X.IsTree ends b ns → AreLinked L b (pairs ns)
  list_from b [] h = tt
  list_from b (n ∷ ns) h = (h.0, h.1, list_from (ends n.tree) ns h.2)

  abbrev pub behind_item : X.Tree → Form MarkedToken
  behind_item x = chain L (ends x)

  abbrev pub items : Form MarkedToken
  items = then X behind_item

  abbrev pub make_list : items.Tree → Separated X.Tree
  make_list k = record { first = k.0; more = unpaired k.1 }

  pub only_list : (s : Separated X.Tree) → AreDivided X.IsTree ends s → (k : items.Tree) × items.IsTree k × (s ≡ make_list k)
  only_list s is = ((s.first, pairs s.more), (is.0, list_from (ends s.first) s.more is.1), ap (λ z. record { first = s.first; more = z }) (back s.more))

  pub list_goes : (k : items.Tree) (t : MarkedToken) → items.IsTree k → items.goes k t ≡ true → goes (sign_of t) ≡ true
  list_goes k t is g = either (goes (sign_of t)) (X.goes k.0 t) (is_empty (spell_chain L k.1)) (by.weaker k.0 t is.0) g

  pub as_list : (b : List MarkedToken) → Reshapes (divided X ends goes) items make_list b
  as_list b = record {
    into = λ k is. (is.0, list_into (ends k.0) k.1 is.1);
    spells = λ k is. ap (λ z. X.spell k.0 ++ z) (list_spells k.1);
    only = λ x is g. only_list x is;
    goes = λ k t is g. list_goes k t is g;
    level = λ k is. ap (λ z. X.levels k.0 ++ z) (list_levels k.1);
  }

  begin_list : (room : ℕ) (b : List MarkedToken) → Leads (divided X ends goes) items room make_list b b
  begin_list room b = leads_as (divided X ends goes) items make_list room b (as_list b)

  pub list_unread : (room : ℕ) (b after : List MarkedToken) (e : Refusal) → Refuses X room b e after → Refuses (divided X ends goes) room b e after
  list_unread room b after e h = passes (divided X ends goes) items room make_list b b after e (begin_list room b) (first_refuses X behind_item (pair_apart L by) room b after e (λ a is. ([], tt)) h)

  -- From the first item to those so far: the last of them says which commas may stand behind it.
  abbrev pub ListSoFar : ℕ → X.Tree → Bool → List (Next Comma X.Tree) → List MarkedToken → List MarkedToken → Type 0
  ListSoFar room first so ns b c = Leads (divided X ends goes) (chain L so) room (λ ps. record { first = first; more = ns ++ unpaired ps }) b c

  pub list_begun : (room : ℕ) (x : X.Tree) (so : Bool) (ns : List (Next Comma X.Tree)) (b c : List MarkedToken) → Found X room b x c → so ≡ ends x → ns ≡ [] → ListSoFar room x so ns b c
  list_begun room x so ns b c found same none =
      let S : Bool → Type 0 = λ z. ListSoFar room x z [] b c in
      let N : List (Next Comma X.Tree) → Type 0 = λ z. ListSoFar room x so z b c in
      subst N (sym none) (subst S (sym same) (leads_on (divided X ends goes) items (behind_item x) room make_list (beside X behind_item x) b b c (begin_list room b) (leads_behind X behind_item (pair_apart L by) room b c x found)))

  as_leads : (F G : Form MarkedToken) (room : ℕ) (build : G.Tree → F.Tree) (b c : List MarkedToken) → Descends F G room room build b c → Leads F G room build b c
  as_leads F G room build b c d = record { finds = d.finds; fails = d.fails; deeper = d.deeper }

  pub list_step : (room : ℕ) (first : X.Tree) (so now : Bool) (ns ms : List (Next Comma X.Tree)) (c : Comma) (x : X.Tree) (b d e g : List MarkedToken) → ListSoFar room first so ns b d → DividesAfter so c → d ≡ comma_token c ∷ e → Found X room e x g → now ≡ ends x → ms ≡ ns ++ next c x ∷ [] → ListSoFar room first now ms b g
  list_step room first so now ns ms c x b d e g so_far may taken found same grown =
      let S : Bool → Type 0 = λ z. ListSoFar room first z ms b g in
      let N : List (Next Comma X.Tree) → Type 0 = λ z. ListSoFar room first (ends x) z b g in
      subst S (sym same) (subst N (sym grown)
      (leads_same (divided X ends goes) (chain L (ends x)) room (λ ps. record { first = first; more = ns ++ next c x ∷ unpaired ps }) (λ ps. record { first = first; more = (ns ++ next c x ∷ []) ++ unpaired ps }) b g
      (λ ps. ap (λ z. record { first = first; more = z }) (sym (append_assoc ns (next c x ∷ []) (unpaired ps))))
      (leads_on (divided X ends goes) (chain L so) (chain L (ends x)) room (λ ps. record { first = first; more = ns ++ unpaired ps }) (λ ps. (c, x) ∷ ps) b d g so_far
      (as_leads (chain L so) (chain L (ends x)) room (λ ps. (c, x) ∷ ps) d g (member_taken L by so c x room room d e g refl may taken found)))))

  pub list_refused : (room : ℕ) (first : X.Tree) (so : Bool) (ns : List (Next Comma X.Tree)) (c : Comma) (b d e after : List MarkedToken) (r : Refusal) → ListSoFar room first so ns b d → DividesAfter so c → d ≡ comma_token c ∷ e → Refuses X room e r after → Refuses (divided X ends goes) room b r after
  list_refused room first so ns c b d e after r so_far may taken refused = passes (divided X ends goes) (chain L so) room (λ ps. record { first = first; more = ns ++ unpaired ps }) b d after r so_far (member_refused L by so c room room d e after r refl may taken refused)

  nil : (ns : List (Next Comma X.Tree)) → ns ++ [] ≡ ns
  nil [] = refl
  nil (n ∷ ns) = ap (λ z. n ∷ z) (nil ns)

  pub list_found : (room : ℕ) (first : X.Tree) (so : Bool) (ns : List (Next Comma X.Tree)) (b d after : List MarkedToken) → ListSoFar room first so ns b d → TakesComma so d None after → Found (divided X ends goes) room b (record { first = first; more = ns }) after
  list_found room first so ns b d after so_far none =
      let F : List MarkedToken → Type 0 = λ z. Found (chain L so) room d [] z in
      let N : List (Next Comma X.Tree) → Type 0 = λ z. Found (divided X ends goes) room b (record { first = first; more = z }) after in
      subst N (nil ns) (so_far.finds [] after (subst F none.0 (chain_ends L by so room d (λ c may agrees. none.1 c may agrees))))

  pub shorter_list : (c : Comma) (room : ℕ) (x : X.Tree) (d e g : List MarkedToken) → d ≡ comma_token c ∷ e → Found X room e x g → length g < length d
  shorter_list c room x d e g taken h =
      let f : length d ≡ length (comma_token c ∷ e) = ap length taken in
      let k : length e ≡ length (X.spell x ++ g) = ap length h.found.split in
      let i : length (X.spell x ++ g) ≡ length (X.spell x) + length g = length-append (X.spell x) g in
      omega (arith, f, k, i)

  -- Two lists that spell the same tokens are equal where items are.
  chain_one : ((n : ℕ) → One n X) → (n : ℕ) (so : Bool) → One n (chain L so)
  chain_one one n so = go n so
    where
      go : (n : ℕ) (so : Bool) → One n (chain L so)
      go zero so = one_zero (chain L so)
      go (suc n) so = one_chain L by n (one n) (go n) so

  pub list_one : ((n : ℕ) → One n X) → (n : ℕ) → One n (divided X ends goes)
  list_one one n = one_as n (divided X ends goes) items make_list only_list (λ s is. (as_list []).spells s is) (λ s t is g. list_goes s t is g)
      (one_then n n X behind_item (pair_apart L by) (one n) (λ a. chain_one one n (ends a)) (λ a l isa h. omega (arith, h)))

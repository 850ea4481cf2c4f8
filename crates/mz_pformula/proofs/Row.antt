-- Chains on which goes what goes on their last member: how one is read, and that two that spell the same are equal.
use Rattle.std.proofs.Common.{◌≡◌, Bool, true, false, ◌||◌, ◌&&◌, List, [], ◌∷◌, ◌++◌, refl, sym, ap, subst, ◌∙◌, append_assoc, ℕ, suc, arith}
use Rattle.std.proofs.lemmas.Bool.{or_left}
use Rattle.mz_forms.specs.declared.refusal.Refusal.{Refusal}
use Rattle.mz_forms.specs.Form.{Form, Agrees, Found, Leads, is_empty, then}
use Rattle.mz_forms.specs.Reading.{Builds, Refuses}
use Rattle.mz_forms.specs.Chain.{under, Lowers, Links, spell_chain, AreLinked}
use Rattle.mz_forms.proofs.Compose.{Apart, head_of}
use Rattle.mz_forms.proofs.Chain.{descends_under}
use Rattle.mz_forms.proofs.Choose.{Chooses, finds_empty}
use Rattle.mz_forms.proofs.Leads.{leads_by, leads_behind, beside, passes, first_refuses}
use Rattle.mz_forms.proofs.Descend.{Descends, descends_here, descends_by, descends_on, descends_same, passes_down}
use Rattle.mz_forms.proofs.One.{One, OneAt, one_then, at_by, at_token, one_from}
use Rattle.mz_pformula.specs.Row.{last_goes, row}

module _ {Token : Type 0} where
  -- Signs are told by their tokens, and go on a chain; no sign that may follow a member goes on it.
  pub record Rowed (L : Links Token) : Type 0 where
    pub told : (s t : L.Sign) → L.sign s ≡ L.sign t → s ≡ t
    pub on : (s : L.Sign) → L.goes (L.sign s) ≡ true
    pub apart : (x : L.Member.Tree) (s : L.Sign) → L.Member.IsTree x → L.May (L.next x) s → L.Member.goes x (L.sign s) ≡ true → ⊥

  module _ (L : Links Token) (by : Rowed L) where
    abbrev pub behind : L.Member.Tree → Form Token
    behind x = row L (L.next x)

    -- behind a sign
    abbrev pub pair : Form Token
    pair = then L.Member behind

    abbrev pub put : L.Sign → pair.Tree → List (L.Sign × L.Member.Tree)
    put s p = (s, p.0) ∷ p.1

    abbrev pub link : L.Sign → L.Member.Tree → List (L.Sign × L.Member.Tree) → List (L.Sign × L.Member.Tree)
    link s x ps = (s, x) ∷ ps

    pub pair_apart : Apart L.Member behind
    pair_apart a [] s x isa isk e g = cc
    pair_apart a (p ∷ ps) s x isa isk e g = let G : Token → Type 0 = λ z. L.Member.goes a z ≡ true in by.apart a p.0 isa isk.0 (subst G (sym (head_of _ _ _ _ e)) g)

    only_sign : (st : L.State) (s : L.Sign) (x : List (L.Sign × L.Member.Tree)) (more : List Token) → AreLinked L st x → spell_chain L x ≡ L.sign s ∷ more → (k : pair.Tree) × pair.IsTree k × (x ≡ put s k)
    only_sign st s [] more is e = cc
    only_sign st s (p ∷ ps) more is e = ((p.1, ps), (is.1, is.2), ap (λ z. (z, p.1) ∷ ps) (by.told p.0 s (head_of _ _ _ _ e)))

    row_goes : (s : L.Sign) (x : L.Member.Tree) (ps : List (L.Sign × L.Member.Tree)) (t : Token) → ((L.goes t || last_goes L ps t) || (is_empty (spell_chain L ps) && L.Member.goes x t)) ≡ true → (L.goes t || last_goes L ((s, x) ∷ ps) t) ≡ true
    row_goes s x [] t g = none (L.goes t) (L.Member.goes x t) g
      where
        none : (p q : Bool) → ((p || false) || (true && q)) ≡ true → (p || q) ≡ true
        none true q h = refl
        none false q h = h
    row_goes s x (p ∷ ps) t g = some (L.goes t) (last_goes L (p ∷ ps) t) g
      where
        some : (p q : Bool) → ((p || q) || false) ≡ true → (p || q) ≡ true
        some true q h = refl
        some false true h = refl
        some false false h = h

    pub by_sign : (st : L.State) (s : L.Sign) → L.May st s → Chooses (row L st) (L.sign s) (under L.deepens pair) (put s) 0
    by_sign st s may = record {
      level = λ k is. refl;
      into = λ k is. (may, is.0, is.1);
      spells = λ k is. refl;
      only = only_sign st s;
      empty = λ x is e. or_left (L.goes (L.sign s)) (last_goes L x (L.sign s)) (by.on s);
      goes = λ k t is g. row_goes s k.0 k.1 t g;
    }

    -- the sign was taken
    pub sign_taken : (st : L.State) (s : L.Sign) (room : ℕ) (b c : List Token) → L.May st s → b ≡ L.sign s ∷ c → Leads (row L st) (under L.deepens pair) room (put s) b c
    sign_taken st s room b c may e = leads_by (row L st) (L.sign s) (under L.deepens pair) (put s) 0 (by_sign st s may) room (omega arith) b c e

    -- and a member behind it
    pub member_taken : (st : L.State) (s : L.Sign) (x : L.Member.Tree) (room left : ℕ) (b c d : List Token) → Lowers L.deepens room left → L.May st s → b ≡ L.sign s ∷ c → Found L.Member left c x d →
        Descends (row L st) (row L (L.next x)) room left (link s x) b d
    member_taken st s x room left b c d low may e found =
        descends_on (row L st) (under L.deepens pair) (row L (L.next x)) room room left (put s) (beside L.Member behind x) b c d
        (descends_by (row L st) (under L.deepens pair) room (put s) b c (sign_taken st s room b c may e))
        (descends_on (under L.deepens pair) pair (row L (L.next x)) room left left (λ t. t) (beside L.Member behind x) c c d (descends_under L.deepens pair room left low c)
        (descends_by pair (row L (L.next x)) left (beside L.Member behind x) c d (leads_behind L.Member behind pair_apart left c d x found)))

    pub member_refused : (st : L.State) (s : L.Sign) (room left : ℕ) (b c after : List Token) (r : Refusal) → Lowers L.deepens room left → L.May st s → b ≡ L.sign s ∷ c → Refuses L.Member left c r after → Refuses (row L st) room b r after
    member_refused st s room left b c after r low may e refused =
        passes (row L st) (under L.deepens pair) room (put s) b c after r (sign_taken st s room b c may e)
        (passes_down (under L.deepens pair) pair room left (λ t. t) c c after r (descends_under L.deepens pair room left low c) (first_refuses L.Member behind pair_apart left c after r (λ a isa. ([], tt)) refused))

    -- what is refused behind the sign, as where no room is left
    pub refused_there : (st : L.State) (s : L.Sign) (room : ℕ) (b c after : List Token) (r : Refusal) → L.May st s → b ≡ L.sign s ∷ c → Refuses (under L.deepens pair) room c r after → Refuses (row L st) room b r after
    refused_there st s room b c after r may e refused = passes (row L st) (under L.deepens pair) room (put s) b c after r (sign_taken st s room b c may e) refused

    -- No sign that may stand here comes next.
    abbrev pub NoSign : L.State → List Token → Type 0
    NoSign st b = (s : L.Sign) → L.May st s → Agrees b (L.sign s ∷ []) → ⊥

    pub chain_ends : (st : L.State) (room : ℕ) (b : List Token) → NoSign st b → Found (row L st) room b [] b
    chain_ends st room b h = record { found = finds_empty (row L st) [] b tt refl only; fits = λ i l. absurd (omega (arith, l)) }
      where
        first : (b : List Token) (t : Token) (w : List Token) → Agrees b (t ∷ w) → Agrees b (t ∷ [])
        first [] t w g = g
        first (s ∷ b) t w g = g

        only : (x : List (L.Sign × L.Member.Tree)) → AreLinked L st x → Agrees b (spell_chain L x) → x ≡ []
        only [] is g = refl
        only (p ∷ ps) is g = absurd (h p.0 is.0 (first b (L.sign p.0) (L.Member.spell p.1 ++ spell_chain L ps) g))

    -- the loop: from the members that were handed in to those so far, with what the first and the last say
    pub record Chained (room left : ℕ) (st so : L.State) (first so_far : List (L.Sign × L.Member.Tree)) (b c : List Token) : Type 0 where
      pub taken : List (L.Sign × L.Member.Tree)
      pub all : so_far ≡ first ++ taken
      pub leads : Descends (row L st) (row L so) room left (λ ps. taken ++ ps) b c

    nil : (ps : List (L.Sign × L.Member.Tree)) → ps ++ [] ≡ ps
    nil [] = refl
    nil (p ∷ ps) = ap (λ z. p ∷ z) (nil ps)

    pub chained_none : (room : ℕ) (st : L.State) (first : List (L.Sign × L.Member.Tree)) (b : List Token) → Chained room room st st first first b b
    chained_none room st first b = record { taken = []; all = sym (nil first); leads = descends_here (row L st) room b }

    pub chained_step : (room left less : ℕ) (st so : L.State) (s : L.Sign) (x : L.Member.Tree) (first v w : List (L.Sign × L.Member.Tree)) (b c d e : List Token) → Chained room left st so first v b c →
        w ≡ v ++ (s, x) ∷ [] → Lowers L.deepens left less → L.May so s → c ≡ L.sign s ∷ d → Found L.Member less d x e → Chained room less st (L.next x) first w b e
    chained_step room left less st so s x first v w b c d e so_far grown low may is found = record {
      taken = so_far.taken ++ (s, x) ∷ [];
      all = grown ∙ (ap (λ z. z ++ (s, x) ∷ []) so_far.all ∙ append_assoc first so_far.taken ((s, x) ∷ []));
      leads = descends_same (row L st) (row L (L.next x)) room less (λ ps. so_far.taken ++ (s, x) ∷ ps) (λ ps. (so_far.taken ++ (s, x) ∷ []) ++ ps) b e
          (λ y. sym (append_assoc so_far.taken ((s, x) ∷ []) y))
          (descends_on (row L st) (row L so) (row L (L.next x)) room left less (λ ps. so_far.taken ++ ps) (link s x) b c e so_far.leads (member_taken so s x left less c d e low may is found));
    }

    pub chained_end : (room left : ℕ) (st so : L.State) (first v : List (L.Sign × L.Member.Tree)) (b c after : List Token) → Chained room left st so first v b c → Found (row L so) left c [] after →
        Builds (row L st) room (λ ps. first ++ ps) v b after
    chained_end room left st so first v b c after so_far h = (so_far.taken ++ [], so_far.leads.finds [] after h, so_far.all ∙ ap (λ z. first ++ z) (sym (nil so_far.taken)))

    -- Two chains behind the same are equal where members are.
    pub one_row : (n : ℕ) → One n L.Member → ((st : L.State) → One n (row L st)) → (st : L.State) → One (suc n) (row L st)
    one_row n members chains st = one_from (suc n) (row L st) (λ a b isa isb ea eb. none a ea ∙ sym (none b eb)) (λ a b tok m isa isb ea eb. or_left (L.goes tok) (last_goes L a tok) (goes b tok m eb)) at
      where
        none : (x : List (L.Sign × L.Member.Tree)) → spell_chain L x ≡ [] → x ≡ []
        none [] e = refl
        none (p ∷ ps) e = cc

        goes : (x : List (L.Sign × L.Member.Tree)) (tok : Token) (m : List Token) → spell_chain L x ≡ tok ∷ m → L.goes tok ≡ true
        goes [] tok m e = cc
        goes (p ∷ ps) tok m e = let G : Token → Type 0 = λ z. L.goes z ≡ true in subst G (head_of _ _ _ _ e) (by.on p.0)

        at : (x : List (L.Sign × L.Member.Tree)) (tok : Token) (m : List Token) → AreLinked L st x → spell_chain L x ≡ tok ∷ m → OneAt (suc n) (row L st) tok
        at [] tok m is e = cc
        at (p ∷ ps) tok m is e = at_token (suc n) (row L st) (L.sign p.0) tok (head_of _ _ _ _ e)
            (at_by n (row L st) (L.sign p.0) (under L.deepens pair) (put p.0) 0 (by_sign st p.0 is.0)
            (one_then n n L.Member behind pair_apart members (λ x. chains (L.next x)) (λ a l isa h. omega arith)))

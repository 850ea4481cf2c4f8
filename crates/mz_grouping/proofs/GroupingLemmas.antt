-- The steps of a run, symbol by symbol.
use Rattle.std.proofs.lemmas.List.{append-nil}
use Rattle.std.proofs.lemmas.Bool.{lt-ltb, le-ltb, ltb-false, ltb-true, eqb-true, eq-eqb, false≢true}
use Rattle.std.proofs.Common.{◌≡◌, ◌≤◌, ◌<◌, ◌+◌, ℕ, zero, suc, Bool, true, false, List, [], ◌∷◌, ◌++◌, refl, sym, ap, subst, ◌∙◌, arith, add-one, length, drop, Option, Some, None, get_or, nat_lt, append_assoc, slice_get}
use Rattle.std.specs.Prelude.{◌&&◌, ◌||◌, nat_eq, if◌then◌else◌}
use Rattle.mz_grouping.specs.Grouping.{Head, replaces, head_of_two, with_part, head_of, Grouped, nothing, operand, headed, neighbours_behind, has_neighbours}
use Rattle.mz_grouping.specs.Open.{head, head_at, replaces_top, begin_of, top_of, rest_of, popped, left_by, between, AreOpen, IsTop, StandsSo, stands_so, tail_head, Beats, nothing_there, beats, Closes, Ends, no_part, one_operand, ReadySo, ready_so}
use Rattle.mz_grouping.specs.declared.opened.Opened.{Opened}
use Rattle.mz_grouping.specs.declared.grouping.Part.{Part}
use Rattle.mz_grouping.specs.declared.grouping.Part.TheVariants.{Operand, Symbol}
use Rattle.mz_grouping.specs.declared.grouping.Step.{Step}
use Rattle.mz_grouping.specs.declared.grouping.Step.TheVariants.{Take, Apply}
use Rattle.mz_grouping.proofs.StretchLemmas.{between-last, between-split, between-length, between-same, between-whole, head_from-last}
use Rattle.mz_grouping.proofs.NeighbourLemmas.{drop-at}

-- booleans of lengths
lt_plus : (low m place : ℕ) → low + m ≡ place → nat_lt 0 m ≡ nat_lt low place
lt_plus low zero place e = sym (le-ltb low place (omega (arith, e)))
lt_plus low (suc m) place e = lt-ltb 0 (suc m) (omega arith) ∙ sym (lt-ltb low place (omega (arith, e)))

-- a symbol that isn't the head in place of another has no less a rank, and stands directly after no operand where it has
-- the same one
stays_parts : (x y : ℕ) (b : Bool) → (nat_lt x y || (nat_eq x y && b)) ≡ false → (y ≤ x) × (x ≡ y → b ≡ false)
stays_parts x y b h =
    let parts : (nat_lt x y ≡ false) × ((nat_eq x y && b) ≡ false) = not_or (nat_lt x y) (nat_eq x y && b) h in
    (ltb-false x y parts.0, λ e. sym (ap (λ t. t && b) (eq-eqb x y e)) ∙ parts.1)
  where
    not_or : (a c : Bool) → (a || c) ≡ false → (a ≡ false) × (c ≡ false)
    not_or true c h = absurd (false≢true (sym h))
    not_or false c h = (refl, h)

stays_from : (x y : ℕ) (b : Bool) → y ≤ x → (x ≡ y → b ≡ false) → (nat_lt x y || (nat_eq x y && b)) ≡ false
stays_from x y b le h = ap (λ t. t || (nat_eq x y && b)) (le-ltb x y le) ∙ same (nat_eq x y) refl
  where
    same : (t : Bool) → nat_eq x y ≡ t → (t && b) ≡ false
    same true e = h (eqb-true x y e)
    same false e = refl

stays_on : (x t a : Head) → replaces t a ≡ false → replaces x t ≡ false → replaces x a ≡ false
stays_on x t a h k =
    let one : (a.rank ≤ t.rank) × (t.rank ≡ a.rank → t.after ≡ false) = stays_parts t.rank a.rank t.after h in
    let two : (t.rank ≤ x.rank) × (x.rank ≡ t.rank → x.after ≡ false) = stays_parts x.rank t.rank x.after k in
    stays_from x.rank a.rank x.after (omega (arith, one.0, two.0)) (λ e. two.1 (omega (arith, one.0, two.0, e)))

-- no open symbol is replaced by one that doesn't replace the last
none_replaced : (x : Head) (o : Opened) (os : List Opened) → replaces_top (head_at o) os ≡ false → replaces x (head_at o) ≡ false → replaces_top x os ≡ false
none_replaced x o [] h k = refl
none_replaced x o (q ∷ os) h k = stays_on x (head_at o) (head_at q) h k

-- the run of the symbol opened last, with the symbol applied
applied : (parts : List Part) (k : ℕ) (o : Opened) (low : ℕ) (ls ts : List Step) →
    low ≤ o.place → o.place < k → k ≤ length parts → slice_get parts o.place ≡ Some (Symbol o.rank o.after) →
    head_of low (between low k parts) ≡ Some (head_at o) →
    Grouped low (between low o.place parts) ls → o.left ≡ nat_lt low o.place → Grouped (suc o.place) (between (suc o.place) k parts) ts →
    Grouped low (between low k parts) (ls ++ ts ++ Apply o.place o.left (nat_lt (suc o.place) k) ∷ [])
applied parts k o low ls ts le lt high at is before left behind =
    let split : between low k parts ≡ between low o.place parts ++ Symbol o.rank o.after ∷ between (suc o.place) k parts = between-split low o.place k parts (Symbol o.rank o.after) le lt at in
    let far : low + length (between low o.place parts) ≡ o.place = between-length low o.place parts le (omega (arith, lt, high)) in
    let rest : suc o.place + length (between (suc o.place) k parts) ≡ k = between-length (suc o.place) k parts (omega (arith, lt)) high in
    let there : Some (head_at o) ≡ Some (head (low + length (between low o.place parts)) o.rank o.after) = ap (λ n. Some (head n o.rank o.after)) (sym far) in
    let one : head_of low (between low o.place parts ++ Symbol o.rank o.after ∷ between (suc o.place) k parts) ≡ Some (head (low + length (between low o.place parts)) o.rank o.after) = ap (head_of low) (sym split) ∙ is ∙ there in
    let right : Grouped (low + suc (length (between low o.place parts))) (between (suc o.place) k parts) ts = subst (λ n. Grouped n (between (suc o.place) k parts) ts) (omega (arith, far)) behind in
    let made : Grouped low (between low o.place parts ++ Symbol o.rank o.after ∷ between (suc o.place) k parts) (ls ++ ts ++ Apply (low + length (between low o.place parts)) (nat_lt 0 (length (between low o.place parts))) (nat_lt 0 (length (between (suc o.place) k parts))) ∷ []) = headed low (between low o.place parts) (between (suc o.place) k parts) o.rank o.after ls ts one before right in
    let steps : Apply (low + length (between low o.place parts)) (nat_lt 0 (length (between low o.place parts))) (nat_lt 0 (length (between (suc o.place) k parts))) ≡ Apply o.place o.left (nat_lt (suc o.place) k) = λ i. Apply (far i) ((lt_plus low (length (between low o.place parts)) o.place far ∙ sym left) i) (lt_plus (suc o.place) (length (between (suc o.place) k parts)) k rest i) in
    subst (λ run. Grouped low run (ls ++ ts ++ Apply o.place o.left (nat_lt (suc o.place) k) ∷ [])) (sym split) (subst (λ s. Grouped low (between low o.place parts ++ Symbol o.rank o.after ∷ between (suc o.place) k parts) (ls ++ ts ++ s ∷ [])) steps made)

-- what stands once the symbol opened last is applied
pop_stands : (parts : List Part) (k : ℕ) (o : Opened) (os : List Opened) (steps : List Step) → StandsSo parts k (o ∷ os) steps → StandsSo parts k os (steps ++ Apply o.place o.left (nat_lt (suc o.place) k) ∷ [])
pop_stands parts k o os steps (stands_so out ts s) =
    let inner : List Step = s.front.0 in
    let ls : List Step = s.front.1 in
    let top : IsTop parts k o os out inner ls = s.front.3 in
    let run : Grouped (begin_of os) (between (begin_of os) k parts) (ls ++ ts ++ Apply o.place o.left (nat_lt (suc o.place) k) ∷ []) =
    applied parts k o (begin_of os) ls ts top.low top.high s.high top.there top.is_head top.before top.left s.tail in
    let end : List Step = Apply o.place o.left (nat_lt (suc o.place) k) ∷ [] in
    stands_so inner (ls ++ ts ++ end) (record {
      front = s.front.2;
      tail = run;
      joined = ap (λ z. z ++ end) (s.joined ∙ ap (λ z. z ++ ts) top.joined ∙ append_assoc inner ls ts) ∙ append_assoc inner (ls ++ ts) end;
      low = omega (arith, top.low, top.high);
      high = s.high;
    })

-- the head behind the symbols that are left
pop_beats : (parts : List Part) (k : ℕ) (o : Opened) (os : List Opened) (steps : List Step) (x : Head) → StandsSo parts k (o ∷ os) steps → replaces x (head_at o) ≡ true → Beats x (tail_head parts k os)
pop_beats parts k o os steps x (stands_so out ts s) r = subst (Beats x) (sym s.front.3.is_head) (beats (head_at o) r)

pub told_closed : (parts : List Part) (k : ℕ) (os : List Opened) (steps : List Step) → k ≡ length parts → os ≡ [] → StandsSo parts k os steps → Grouped 0 parts steps
told_closed parts k os steps ek eo h = closed parts k steps ek (subst (λ us. StandsSo parts k us steps) eo h)
  where
    closed : (parts : List Part) (k : ℕ) (steps : List Step) → k ≡ length parts → StandsSo parts k [] steps → Grouped 0 parts steps
    closed parts k steps ek (stands_so out ts s) =
        let same : steps ≡ ts = s.joined ∙ ap (λ z. z ++ ts) s.front in
        subst (λ run. Grouped 0 run steps) (ap (λ n. between 0 n parts) ek ∙ between-whole parts) (subst (Grouped 0 (between 0 k parts)) (sym same) s.tail)

-- the head of a run with a part more, where its head stays
head_stays : (parts : List Part) (k low : ℕ) (p : Part) (h : Head) → low ≤ k → k ≤ length parts → slice_get parts k ≡ Some p →
    head_of low (between low k parts) ≡ Some h → with_part (Some h) k p ≡ Some h → head_of low (between low (suc k) parts) ≡ Some h
head_stays parts k low p h le high at is stays =
    ap (head_of low) (between-last low k parts p le at) ∙
    head_from-last None low (between low k parts) p ∙
    ap (λ n. with_part (head_of low (between low k parts)) n p) (between-length low k parts le high) ∙
    ap (λ b. with_part b k p) is ∙ stays

-- open symbols as far as the next place, past an operand
past_operand : (parts : List Part) (k : ℕ) (os : List Opened) (out : List Step) → k ≤ length parts → slice_get parts k ≡ Some Operand → AreOpen parts k os out → AreOpen parts (suc k) os out
past_operand parts k [] out high at h = h
past_operand parts k (o ∷ os) out high at (inner, ls, below, top) = (
  inner,
  ls,
  past_operand parts k os inner high at below,
  record {
    low = top.low;
    high = omega (arith, top.high);
    there = top.there;
    is_head = head_stays parts k (begin_of os) Operand (head_at o) (omega (arith, top.low, top.high)) high at top.is_head refl;
    before = top.before;
    left = top.left;
    stays = top.stays;
    joined = top.joined;
  },
)

-- past a symbol that replaces none of them
past_symbol : (parts : List Part) (k rank : ℕ) (after : Bool) (os : List Opened) (out : List Step) → k ≤ length parts → slice_get parts k ≡ Some (Symbol rank after) → replaces_top (head k rank after) os ≡ false → AreOpen parts k os out → AreOpen parts (suc k) os out
past_symbol parts k rank after [] out high at r h = h
past_symbol parts k rank after (o ∷ os) out high at r (inner, ls, below, top) = (
  inner,
  ls,
  past_symbol parts k rank after os inner high at (none_replaced (head k rank after) o os top.stays r) below,
  record {
    low = top.low;
    high = omega (arith, top.high);
    there = top.there;
    is_head = head_stays parts k (begin_of os) (Symbol rank after) (head_at o) (omega (arith, top.low, top.high)) high at top.is_head (ap (λ b. if b then Some (head k rank after) else Some (head_at o)) r);
    before = top.before;
    left = top.left;
    stays = top.stays;
    joined = top.joined;
  },
)

cons_nil : (x : Part) (xs : List Part) → x ∷ xs ≡ [] → ⊥
cons_nil x xs e = cc

-- the steps of an empty run
no_steps : (n : ℕ) (run : List Part) (ts : List Step) → run ≡ [] → Grouped n run ts → ts ≡ []
no_steps n run ts e (nothing m) = refl
no_steps n run ts e (operand m) = absurd (cons_nil Operand [] e)
no_steps n run ts e (headed m before behind rank after ls rs h a b) = absurd (never before (Symbol rank after) behind e)
  where
    never : (xs : List Part) (x : Part) (ys : List Part) → (xs ++ x ∷ ys) ≡ [] → ⊥
    never [] x ys e = cons_nil x ys e
    never (y ∷ xs) x ys e = cons_nil y (xs ++ x ∷ ys) e

-- an empty run behind the symbol opened last begins at k
begins_at : (parts : List Part) (k low : ℕ) → low ≤ k → k ≤ length parts → between low k parts ≡ [] → low ≡ k
begins_at parts k low le high e = omega (arith, between-length low k parts le high, ap length e)

empty_run : (run : List Part) (b : Bool) → Ends run b → b ≡ false → run ≡ []
empty_run run b no_part e = refl
empty_run run b one_operand e = absurd (false≢true (sym e))

at_part : (parts : List Part) (k : ℕ) (p : Part) → k < length parts → p ≡ get_or parts k p → slice_get parts k ≡ Some p
at_part [] k p lt e = absurd (omega (arith, lt))
at_part (q ∷ ps) zero p lt e = ap Some (sym e)
at_part (q ∷ ps) (suc k) p lt e = at_part ps k p (omega (arith, lt)) e

operand_apart : (b c : Bool) → ((b && true) || c) ≡ false → (b ≡ false) × (c ≡ false)
operand_apart true c h = absurd (false≢true (sym h))
operand_apart false c h = (refl, h)

symbol_apart : (b c : Bool) → ((b && false) || c) ≡ false → c ≡ false
symbol_apart true c h = h
symbol_apart false c h = h

operand_after : (parts : List Part) (k : ℕ) (os : List Opened) (steps : List Step) (p : Part) (b : Bool) → k < length parts → p ≡ get_or parts k p → p ≡ Operand →
    StandsSo parts k os steps → Ends (between (begin_of os) k parts) b → neighbours_behind b (drop k parts) ≡ false → ReadySo parts (suc k) os (steps ++ Take k ∷ [])
operand_after parts k os steps p b lt get is (stands_so out ts s) ends before =
    let at : slice_get parts k ≡ Some Operand = at_part parts k p lt get ∙ ap Some is in
    let apart : ((b && true) || neighbours_behind true (drop (suc k) parts)) ≡ false = sym (ap (neighbours_behind b) (drop-at k parts p lt get ∙ ap (λ q. q ∷ drop (suc k) parts) is)) ∙ before in
    let none : between (begin_of os) k parts ≡ [] = empty_run (between (begin_of os) k parts) b ends (operand_apart b (neighbours_behind true (drop (suc k) parts)) apart).0 in
    let here : begin_of os ≡ k = begins_at parts k (begin_of os) s.low s.high none in
    let one : between (begin_of os) (suc k) parts ≡ Operand ∷ [] = between-last (begin_of os) k parts Operand s.low at ∙ ap (λ run. run ++ Operand ∷ []) none in
    let gone : ts ≡ [] = no_steps (begin_of os) (between (begin_of os) k parts) ts none s.tail in
    ready_so true (record {
      stands = stands_so out (Take k ∷ []) (record {
        front = past_operand parts k os out s.high at s.front;
        tail = subst (λ run. Grouped (begin_of os) run (Take k ∷ [])) (sym one) (subst (λ n. Grouped (begin_of os) (Operand ∷ []) (Take n ∷ [])) here (operand (begin_of os)));
        joined = ap (λ z. z ++ Take k ∷ []) (s.joined ∙ ap (λ z. out ++ z) gone ∙ append-nil out);
        low = omega (arith, s.low);
        high = lt;
      });
      ends = subst (λ run. Ends run true) (sym one) one_operand;
      apart = (operand_apart b (neighbours_behind true (drop (suc k) parts)) apart).1;
    })

pub told_operand : (parts : List Part) (k : ℕ) (os : List Opened) (steps : List Step) (p : Part) → k < length parts → p ≡ get_or parts k p → p ≡ Operand → ReadySo parts k os steps → ReadySo parts (suc k) os (steps ++ Take k ∷ [])
told_operand parts k os steps p lt get is (ready_so b ready) = operand_after parts k os steps p b lt get is ready.stands ready.ends ready.apart

beaten_head : (x : Head) (o : Option Head) → Beats x o → head_of_two o x ≡ Some x
beaten_head x o nothing_there = refl
beaten_head x o (beats y h) = ap (λ b. if b then Some x else Some y) h

pub told_symbol : (parts : List Part) (k : ℕ) (before os : List Opened) (first steps : List Step) (p : Part) (rank : ℕ) (after left : Bool) → k < length parts → p ≡ get_or parts k p → p ≡ Symbol rank after →
    ReadySo parts k before first → StandsSo parts k os steps → Beats (head k rank after) (tail_head parts k os) → replaces_top (head k rank after) os ≡ false → left ≡ nat_lt (begin_of os) k →
    ReadySo parts (suc k) (record { place = k; rank = rank; after = after; left = left } ∷ os) steps
told_symbol parts k before os first steps p rank after left lt get is (ready_so b ready) (stands_so out ts s) beaten stays is_left =
    let at : slice_get parts k ≡ Some (Symbol rank after) = at_part parts k p lt get ∙ ap Some is in
    let apart : ((b && false) || neighbours_behind false (drop (suc k) parts)) ≡ false = sym (ap (neighbours_behind b) (drop-at k parts p lt get ∙ ap (λ q. q ∷ drop (suc k) parts) is)) ∙ ready.apart in
    ready_so false (record {
      stands = stands_so steps [] (record {
        front = (
          out,
          ts,
          past_symbol parts k rank after os out s.high at stays s.front,
          record {
            low = s.low;
            high = omega arith;
            there = at;
            is_head =
                ap (head_of (begin_of os)) (between-last (begin_of os) k parts (Symbol rank after) s.low at) ∙
                head_from-last None (begin_of os) (between (begin_of os) k parts) (Symbol rank after) ∙
                ap (λ n. with_part (tail_head parts k os) n (Symbol rank after)) (between-length (begin_of os) k parts s.low s.high) ∙
                beaten_head (head k rank after) (tail_head parts k os) beaten;
            before = s.tail;
            left = is_left;
            stays = stays;
            joined = s.joined;
          },
        );
        tail = subst (λ run. Grouped (suc k) run []) (sym (between-same (suc k) parts)) (nothing (suc k));
        joined = sym (append-nil steps);
        low = omega arith;
        high = lt;
      });
      ends = subst (λ run. Ends run false) (sym (between-same (suc k) parts)) no_part;
      apart = symbol_apart b (neighbours_behind false (drop (suc k) parts)) apart;
    })

pub told_ready : (parts : List Part) → has_neighbours parts ≡ false → ReadySo parts 0 [] []
told_ready parts h =
    ready_so false (record {
      stands = stands_so [] [] (record {
        front = refl;
        tail = subst (λ run. Grouped 0 run []) (sym (between-same 0 parts)) (nothing 0);
        joined = refl;
        low = omega arith;
        high = omega arith;
      });
      ends = subst (λ run. Ends run false) (sym (between-same 0 parts)) no_part;
      apart = h;
    })

pub told_ready_at : (parts : List Part) (k : ℕ) (os : List Opened) (steps : List Step) → k ≡ 0 → os ≡ [] → steps ≡ [] → has_neighbours parts ≡ false → ReadySo parts k os steps
told_ready_at parts k os steps ek eo es h = subst (λ n. ReadySo parts n os steps) (sym ek) (subst (λ us. ReadySo parts 0 us steps) (sym eo) (subst (ReadySo parts 0 []) (sym es) (told_ready parts h)))

pub told_stands : (parts : List Part) (k : ℕ) (os : List Opened) (steps : List Step) → ReadySo parts k os steps → StandsSo parts k os steps
told_stands parts k os steps (ready_so b ready) = ready.stands

-- a run that ends so has no head
pub told_beats : (parts : List Part) (k : ℕ) (os : List Opened) (steps : List Step) (x : Head) → ReadySo parts k os steps → Beats x (tail_head parts k os)
told_beats parts k os steps x (ready_so b ready) = by_end (begin_of os) (between (begin_of os) k parts) b ready.ends
  where
    by_end : (low : ℕ) (run : List Part) (b : Bool) → Ends run b → Beats x (head_of low run)
    by_end low run b no_part = nothing_there
    by_end low run b one_operand = nothing_there

-- the symbol that is popped
none_some : (o : Opened) → None ≡ Some o → ⊥
none_some o e = cc

abbrev opened_or : Option Opened → Opened → Opened
opened_or None d = d
opened_or (Some o) d = o

pub told_pop : (parts : List Part) (k : ℕ) (os new : List Opened) (o : Opened) (steps : List Step) (b : Bool) → Some o ≡ top_of os → new ≡ rest_of os → b ≡ nat_lt (suc o.place) k → StandsSo parts k os steps → StandsSo parts k new (steps ++ Apply o.place o.left b ∷ [])
told_pop parts k [] new o steps b et er eb h = absurd (none_some o (sym et))
told_pop parts k (p ∷ os) new o steps b et er eb h =
    let same : p ≡ o = ap (λ q. opened_or q p) (sym et) in
    subst (λ c. StandsSo parts k new (steps ++ Apply o.place o.left c ∷ [])) (sym eb)
    (subst (λ us. StandsSo parts k us (steps ++ Apply o.place o.left (nat_lt (suc o.place) k) ∷ [])) (sym er)
    (subst (λ q. StandsSo parts k os (steps ++ Apply q.place q.left (nat_lt (suc q.place) k) ∷ [])) same (pop_stands parts k p os steps h)))

abbrev top_if : Bool → List Opened → Option Opened
top_if b os = if b then top_of os else None

abbrev rest_if : Bool → List Opened → List Opened
rest_if b os = if b then rest_of os else os

popped_true : (b : Bool) (os : List Opened) (o : Opened) → Some o ≡ top_if b os → b ≡ true
popped_true true os o e = refl
popped_true false os o e = absurd (none_some o (sym e))

popped_false : (b : Bool) (o : Opened) (os : List Opened) → None ≡ top_if b (o ∷ os) → b ≡ false
popped_false true o os e = absurd (none_some o e)
popped_false false o os e = refl

pub told_popped : (parts : List Part) (k rank : ℕ) (after : Bool) (os new : List Opened) (o : Opened) (steps : List Step) (b : Bool) → Some o ≡ popped (head k rank after) os → new ≡ left_by (head k rank after) os → b ≡ nat_lt (suc o.place) k → StandsSo parts k os steps → StandsSo parts k new (steps ++ Apply o.place o.left b ∷ [])
told_popped parts k rank after os new o steps b et er eb h =
    let yes : replaces_top (head k rank after) os ≡ true = popped_true (replaces_top (head k rank after) os) os o et in
    told_pop parts k os new o steps b (et ∙ ap (λ c. top_if c os) yes) (er ∙ ap (λ c. rest_if c os) yes) eb h

pub told_beaten : (parts : List Part) (k rank : ℕ) (after : Bool) (os new : List Opened) (o : Opened) (steps : List Step) → Some o ≡ popped (head k rank after) os → new ≡ left_by (head k rank after) os → StandsSo parts k os steps → Beats (head k rank after) (tail_head parts k new)
told_beaten parts k rank after [] new o steps et er h = absurd (none_some o (sym et))
told_beaten parts k rank after (p ∷ os) new o steps et er h =
    let yes : replaces_top (head k rank after) (p ∷ os) ≡ true = popped_true (replaces_top (head k rank after) (p ∷ os)) (p ∷ os) o et in
    subst (λ us. Beats (head k rank after) (tail_head parts k us)) (sym (er ∙ ap (λ c. rest_if c (p ∷ os)) yes)) (pop_beats parts k p os steps (head k rank after) h yes)

pub told_fewer : (x : Head) (os new : List Opened) (o : Opened) → Some o ≡ popped x os → new ≡ left_by x os → length new < length os
told_fewer x [] new o et er = absurd (none_some o (sym et))
told_fewer x (p ∷ os) new o et er =
    let yes : replaces_top x (p ∷ os) ≡ true = popped_true (replaces_top x (p ∷ os)) (p ∷ os) o et in
    omega (arith, ap length (er ∙ ap (λ c. rest_if c (p ∷ os)) yes))

pub told_rest_fewer : (os new : List Opened) (o : Opened) → Some o ≡ top_of os → new ≡ rest_of os → length new < length os
told_rest_fewer [] new o et er = absurd (none_some o (sym et))
told_rest_fewer (p ∷ os) new o et er = omega (arith, ap length er)

-- nothing is popped
pub told_stays : (x : Head) (os : List Opened) → None ≡ popped x os → replaces_top x os ≡ false
told_stays x [] e = refl
told_stays x (o ∷ os) e = popped_false (replaces_top x (o ∷ os)) o os e

pub told_left : (x : Head) (os new : List Opened) → None ≡ popped x os → new ≡ left_by x os → new ≡ os
told_left x [] new e er = er ∙ ap (λ c. rest_if c []) (told_stays x [] e)
told_left x (o ∷ os) new e er = er ∙ ap (λ c. rest_if c (o ∷ os)) (told_stays x (o ∷ os) e)

pub told_all_closed : (os : List Opened) → None ≡ top_of os → os ≡ []
told_all_closed [] e = refl
told_all_closed (o ∷ os) e = absurd (none_some o e)

pub told_done : (os new : List Opened) → None ≡ top_of os → new ≡ rest_of os → new ≡ []
told_done [] new e er = er
told_done (o ∷ os) new e er = absurd (none_some o e)

-- the same with what is on the lists behind it
pub told_one_closed : (parts : List Part) (k : ℕ) (os new : List Opened) (o : Opened) (steps more : List Step) (b : Bool) → Some o ≡ top_of os → new ≡ rest_of os → b ≡ nat_lt (suc o.place) k → more ≡ steps ++ Apply o.place o.left b ∷ [] → StandsSo parts k os steps → StandsSo parts k new more
told_one_closed parts k os new o steps more b et er eb em h = subst (StandsSo parts k new) (sym em) (told_pop parts k os new o steps b et er eb h)

pub told_further : (parts : List Part) (k rank : ℕ) (after : Bool) (os new : List Opened) (o : Opened) (steps more : List Step) (b : Bool) → Some o ≡ popped (head k rank after) os → new ≡ left_by (head k rank after) os → b ≡ nat_lt (suc o.place) k → more ≡ steps ++ Apply o.place o.left b ∷ [] → Closes parts k rank after os steps → Closes parts k rank after new more
told_further parts k rank after os new o steps more b et er eb em h = record {
  stands = subst (StandsSo parts k new) (sym em) (told_popped parts k rank after os new o steps b et er eb h.stands);
  beats = told_beaten parts k rank after os new o steps et er h.stands;
}

pub told_closes : (parts : List Part) (k rank : ℕ) (after : Bool) (os : List Opened) (steps : List Step) → StandsSo parts k os steps → Beats (head k rank after) (tail_head parts k os) → Closes parts k rank after os steps
told_closes parts k rank after os steps h b = record { stands = h; beats = b }

pub told_stands_closed : (parts : List Part) (k rank : ℕ) (after : Bool) (os new : List Opened) (steps : List Step) → None ≡ popped (head k rank after) os → new ≡ left_by (head k rank after) os → Closes parts k rank after os steps → StandsSo parts k new steps
told_stands_closed parts k rank after os new steps e er h = subst (λ us. StandsSo parts k us steps) (sym (told_left (head k rank after) os new e er)) h.stands

pub told_beats_closed : (parts : List Part) (k rank : ℕ) (after : Bool) (os new : List Opened) (steps : List Step) → None ≡ popped (head k rank after) os → new ≡ left_by (head k rank after) os → Closes parts k rank after os steps → Beats (head k rank after) (tail_head parts k new)
told_beats_closed parts k rank after os new steps e er h = subst (λ us. Beats (head k rank after) (tail_head parts k us)) (sym (told_left (head k rank after) os new e er)) h.beats

pub told_top_closed : (x : Head) (os new : List Opened) → None ≡ popped x os → new ≡ left_by x os → replaces_top x new ≡ false
told_top_closed x os new e er = ap (replaces_top x) (told_left x os new e er) ∙ told_stays x os e

pub told_taken : (parts : List Part) (k : ℕ) (os : List Opened) (steps more : List Step) (p : Part) → k < length parts → p ≡ get_or parts k p → p ≡ Operand → more ≡ steps ++ Take k ∷ [] → ReadySo parts k os steps → ReadySo parts (suc k) os more
told_taken parts k os steps more p lt get is em h = subst (ReadySo parts (suc k) os) (sym em) (told_operand parts k os steps p lt get is h)

pub told_opened : (parts : List Part) (k : ℕ) (before os now : List Opened) (first steps : List Step) (p : Part) (rank : ℕ) (after left : Bool) → k < length parts → p ≡ get_or parts k p → p ≡ Symbol rank after →
    ReadySo parts k before first → StandsSo parts k os steps → Beats (head k rank after) (tail_head parts k os) → replaces_top (head k rank after) os ≡ false → left ≡ nat_lt (begin_of os) k → now ≡ record { place = k; rank = rank; after = after; left = left } ∷ os →
    ReadySo parts (suc k) now steps
told_opened parts k before os now first steps p rank after left lt get is ready stands beaten stays is_left en =
    subst (λ us. ReadySo parts (suc k) us steps) (sym en) (told_symbol parts k before os first steps p rank after left lt get is ready stands beaten stays is_left)

pub told_counted : (parts : List Part) (k : ℕ) (os : List Opened) (steps : List Step) → ReadySo parts (suc k) os steps → ReadySo parts (k + 1) os steps
told_counted parts k os steps h = subst (λ n. ReadySo parts n os steps) (sym (add-one k)) h

whole : (parts : List Part) (k : ℕ) (os : List Opened) (steps : List Step) → (k < length parts → ⊥) → StandsSo parts k os steps → StandsSo parts (length parts) os steps
whole parts k os steps h (stands_so out ts s) = subst (λ n. StandsSo parts n os steps) (same s.high h) (stands_so out ts s)
  where
    same : {n m : ℕ} → n ≤ m → (n < m → ⊥) → n ≡ m
    same {n} {m} le h = elim (nat_lt n m) as (λ t. nat_lt n m ≡ t → n ≡ m) [
      | true ↦ (λ e. absurd (h (ltb-true n m e)))
      | false ↦ (λ e. omega (arith, le, ltb-false n m e))
    ] refl

pub told_whole : (parts : List Part) (k : ℕ) (os : List Opened) (steps : List Step) → (k < length parts → ⊥) → ReadySo parts k os steps → StandsSo parts (length parts) os steps
told_whole parts k os steps h r = whole parts k os steps h (told_stands parts k os steps r)

pub told_whole_past : (parts : List Part) (k : ℕ) (os : List Opened) (steps : List Step) → length parts ≤ k → ReadySo parts k os steps → StandsSo parts (length parts) os steps
told_whole_past parts k os steps h r = whole parts k os steps (λ l. absurd (omega (arith, h, l))) (told_stands parts k os steps r)

pub ruleset beaten_rules = (told_further, told_fewer, told_closes, told_stands_closed, told_beats_closed, told_top_closed)

pub ruleset closed_rules = (told_one_closed, told_rest_fewer, told_done, told_closed)

pub ruleset part_rules = (told_taken, told_opened, told_stands, told_beats)

pub ruleset run_rules = (told_ready_at, told_stands, told_counted, told_whole, told_whole_past)

-- The radices of a chain hold.
use Rattle.std.proofs.Common.{◌≡◌, ℕ, zero, suc, List, [], ◌∷◌, ◌++◌, map, reverse, refl, sym, ap, ◌∙◌, subst, arith, true, false, Option, Some, None}
use Rattle.std.specs.Prelude.{Contains}
use Rattle.std.specs.List.{list_all}
use Rattle.std.proofs.lemmas.Bool.{and_parts}
use Rattle.std.proofs.lemmas.List.{map-append}
use Rattle.std.proofs.lemmas.List.Elements.{Contains-append_left}
use Rattle.mz_base.specs.Name.{number_of}
use Rattle.mz_logic.specs.declared.sym.Sym.{Sym}
use Rattle.mz_logic.specs.Term.{Term, Bound, Const, App, terms_of}
use Rattle.mz_logic.specs.Formula.{Formula}
use Rattle.mz_logic.specs.Indices.{closed}
use Rattle.mz_logic.specs.Literal.{literal_formula}
use Rattle.mz_logic.specs.Derives.{Derives}
use Rattle.mz_logic.specs.declared.literal.Literal.{Literal}
use Rattle.mz_logic.proofs.IndexLemmas.{args_below-terms_of}
use Rattle.mz_logic.proofs.Each.{Along, each_along}
use Rattle.mz_core.specs.Hidden.{is_of_any_object, object_mode, set_mode}
use Rattle.mz_core.specs.Guard.{guard, guard_literals}
use Rattle.mz_core.specs.declared.radix.Radix.{Radix}
use Rattle.mz_core.specs.declared.structure.Structure.{Structure}
use Rattle.mz_context.specs.declared.constants.Constant.{Constant}
use Rattle.mz_context.specs.declared.context.Context.{Context}
use Rattle.mz_context.specs.Context.{numbered, constant_at}
use Rattle.mz_context.specs.Gather.{known, known_of, equation_if_any}
use Rattle.mz_ground.specs.declared.clause.Clause.{Clause}
use Rattle.mz_items.specs.Closed.{structure_closed}
use Rattle.mz_environment.specs.declared.environment.Environment.{Environment}
use Rattle.mz_fits.specs.Laws.{AreGranted}
use Rattle.mz_types.specs.Known.{typing}
use Rattle.mz_types.specs.Chain as ch
use Rattle.mz_types.specs.Chain.{plain, chain_end, Parents, Visited, Walks, walked, visits, Begins, IsChain, chain_of, radix_if_any, rows_of_letters}
use Rattle.mz_chain_laws.specs.ChainLaw.{HasPartClauses, HasChainClauses, HasClosedRadices, as_type, ChainLaw}
use Rattle.mz_chain_laws.proofs.Said.{Holds, radix_part, AllHold, all_append, all_reverse}
use Rattle.mz_chain_laws.proofs.RowHolds.{rows_hold, parents_hold}
use Rattle.mz_chain_laws.proofs.StructureHolds.{AreDescribed, ancestors_hold, first_holds}
use Rattle.mz_chain_laws.proofs.AggregateHolds.{AreMade, aggregate_holds}

described : (cs : List Clause) (e : Environment) (c : Context) → HasChainClauses cs e c → AreDescribed cs e.structures
described cs e c h x k = ((h.structures x k).0, (h.structures x k).2, h.plain x k)

made : (cs : List Clause) (e : Environment) (c : Context) → HasChainClauses cs e c → AreMade cs e.structures
made cs e c h x k = ((h.structures x k).1, (h.structures x k).2)

-- parents
parents_of : (ax g : List Formula) (cs : List Clause) (e : Environment) (c : Context) → AreGranted ax g cs c.constants → HasChainClauses cs e c → (t : Term) → closed t ≡ true → (r : Radix) → Holds ax g t r → (xs : List Radix) → Parents cs e c r xs → AllHold ax g t xs
parents_of ax g cs e c grants h t ct r hr xs (ch.of_mode ys k rows) = all_reverse ax g t ys (parents_hold ax g cs c.constants grants t ct r hr e.modes h.modes ys rows)
parents_of ax g cs e c grants h t ct r hr xs (ch.of_structure ys k a) = ancestors_hold ax g cs c.constants grants e.structures (described cs e c h) t ct r hr ys a
parents_of ax g cs e c grants h t ct r hr xs (ch.of_other k l) = tt

visited : (ax g : List Formula) (cs : List Clause) (e : Environment) (c : Context) → AreGranted ax g cs c.constants → HasChainClauses cs e c → (t : Term) → closed t ≡ true → (out : List Radix) (r : Radix) (xs after : List Radix) → Visited cs e c out r xs after → AllHold ax g t out → Holds ax g t r → AllHold ax g t xs × AllHold ax g t after
visited ax g cs e c grants h t ct out r xs after (ch.left_out l) ho hr = (tt, ho)
visited ax g cs e c grants h t ct out r xs after (ch.taken ys l p) ho hr = (parents_of ax g cs e c grants h t ct r hr ys p, all_append ax g t out (r ∷ []) ho (hr, tt))

walk_holds : (ax g : List Formula) (cs : List Clause) (e : Environment) (c : Context) → AreGranted ax g cs c.constants → HasChainClauses cs e c → (t : Term) → closed t ≡ true → (todo out end : List Radix) → Walks cs e c todo out end → AllHold ax g t todo → AllHold ax g t out → AllHold ax g t end
walk_holds ax g cs e c grants h t ct todo out end (walked o) ht ho = ho
walk_holds ax g cs e c grants h t ct todo out end (visits r others xs o between last v w) ht ho =
    let b : AllHold ax g t xs × AllHold ax g t between = visited ax g cs e c grants h t ct o r xs between v ho ht.0 in
    walk_holds ax g cs e c grants h t ct (xs ++ others) between last w (all_append ax g t xs others b.0 ht.1) b.1

each_guard : (ax g : List Formula) (qs : List Literal) → ((l : Literal) → Contains qs l → Derives ax g (literal_formula l)) → Along ax g (map literal_formula qs)
each_guard ax g [] f = tt
each_guard ax g (q ∷ qs) f = (f q (0, omega arith, refl), each_guard ax g qs (λ l i. f l (suc i.0, omega (arith, i.1), i.2)))

-- the declared radix of a constant
constant_holds : (ax g : List Formula) (cs : List Clause) (c : Context) → AreGranted ax g cs c.constants → HasClosedRadices c → (n : ℕ) (k : Constant) → constant_at c n ≡ Some k → Holds ax g (Const n) k.ty.radix
constant_holds ax g cs c grants hc n k e =
    record {
      arguments = hc n k e;
      guards = radix_part ax g k.ty (Const n) (each_guard ax g (guard_literals k.ty (Const n)) (λ l i. grants.known n l (subst (λ (o : Option Constant). Contains (known_of n o) l) (sym e) (Contains-append_left (guard_literals k.ty (Const n)) (equation_if_any n k.equal) l i))));
    }

one_if_any : (ax g : List Formula) (t : Term) (o : Option Radix) → ((y : Radix) → o ≡ Some y → Holds ax g t y) → AllHold ax g t (radix_if_any o)
one_if_any ax g t None f = tt
one_if_any ax g t (Some y) f = (f y refl, tt)

-- `object` and `set` say nothing
end_holds : (ax g : List Formula) (t : Term) → AllHold ax g t chain_end
unfolding number_of
end_holds ax g t = (record { arguments = refl; guards = tt }, (record { arguments = refl; guards = tt }, tt))

arguments_closed : (s : Sym) (ts : List Term) → closed (App s (terms_of ts)) ≡ true → list_all closed ts ≡ true
arguments_closed s ts h = sym (args_below-terms_of 0 ts) ∙ h

one_closed : (u : Term) → list_all closed (u ∷ []) ≡ true → closed u ≡ true
one_closed u h = (and_parts (closed u) true h).0

mutual
  begins_hold : (ax g : List Formula) (cs : List Clause) (e : Environment) (c : Context) → AreGranted ax g cs c.constants → HasChainClauses cs e c → HasClosedRadices c → (t : Term) (xs : List Radix) → Begins cs e c t xs → closed t ≡ true → AllHold ax g t xs
  begins_hold ax g cs e c grants h hc t xs (ch.constant n k i) ct = (constant_holds ax g cs c grants hc n k i, tt)
  begins_hold ax g cs e c grants h hc t xs (ch.no_constant n i) ct = tt
  begins_hold ax g cs e c grants h hc t xs (ch.index i) ct = tt
  begins_hold ax g cs e c grants h hc t xs (ch.functor s ts ys k rows) ct =
      all_reverse ax g (App s (terms_of ts)) ys (rows_hold ax g cs c.constants grants s ts (arguments_closed s ts ct) e.functors h.functors ys rows)
  begins_hold ax g cs e c grants h hc t xs (ch.letter s ts ys k rows) ct =
      all_reverse ax g (App s (terms_of ts)) ys (rows_hold ax g cs c.constants grants s ts (arguments_closed s ts ct) (rows_of_letters c.letters) h.letters ys rows)
  begins_hold ax g cs e c grants h hc t xs (ch.aggregate s ts o k a) ct =
      one_if_any ax g (App s (terms_of ts)) o (aggregate_holds ax g cs c.constants grants e.structures (made cs e c h) s ts (arguments_closed s ts ct) o a)
  begins_hold ax g cs e c grants h hc t xs (ch.selector s u members o k m f) ct =
      let cu : closed u ≡ true = one_closed u (arguments_closed s (u ∷ []) ct) in
      one_if_any ax g (App s (terms_of (u ∷ []))) o (first_holds ax g cs c.constants grants e.structures (described cs e c h) s u cu members (chain_holds ax g cs e c grants h hc u members m cu) o f)
  begins_hold ax g cs e c grants h hc t xs (ch.no_selection s ts k n) ct = tt
  begins_hold ax g cs e c grants h hc t xs (ch.other s ts k) ct = tt

  chain_holds : (ax g : List Formula) (cs : List Clause) (e : Environment) (c : Context) → AreGranted ax g cs c.constants → HasChainClauses cs e c → HasClosedRadices c → (t : Term) (rs : List Radix) → IsChain cs e c t rs → closed t ≡ true → AllHold ax g t rs
  chain_holds ax g cs e c grants h hc t rs (chain_of u first out b w) ct =
      all_append ax g u out chain_end (walk_holds ax g cs e c grants h u ct first [] out w (begins_hold ax g cs e c grants h hc u first b ct) tt) (end_holds ax g u)

each_holds : (ax g : List Formula) (t : Term) (rs : List Radix) → AllHold ax g t rs → (r : Radix) → Contains rs r → Holds ax g t r
each_holds ax g t [] h r c = absurd (let lt = c.1 in omega arith)
each_holds ax g t (q ∷ rs) h r (zero, lt, e) = subst (Holds ax g t) e h.0
each_holds ax g t (q ∷ rs) h r (suc k, lt, e) = each_holds ax g t rs h.1 r (k, omega arith, e)

pub chain_law : ChainLaw
chain_law ax g e c grants h hc t ct rs chain r k =
    each_along ax g (guard (as_type r) t) (each_holds ax g t rs (chain_holds ax g (typing e c) e c grants h hc t rs chain ct) r k).guards

-- What the code of rows tells.
use Rattle.std.proofs.Common.{◌≡◌, ◌≤◌, ◌<◌, ◌+◌, ℕ, zero, suc, List, [], ◌∷◌, ◌++◌, refl, sym, ap, ◌∙◌, subst, Bool, true, false, arith, length, Option, Some, None, take, get_or, map, append_assoc}
use Rattle.std.specs.Prelude.{if◌then◌else◌}
use Rattle.std.specs.List.{filter}
use Rattle.std.proofs.lemmas.List.{append-nil, map-append}
use Rattle.mz_logic.specs.declared.sym.Sym.{Sym}
use Rattle.mz_logic.specs.Sym.{same_sym}
use Rattle.mz_logic.specs.Term.{Term}
use Rattle.mz_core.specs.declared.radix.Radix.{Radix}
use Rattle.mz_context.specs.declared.constants.Constant.{Constant}
use Rattle.mz_ground.specs.declared.clause.Clause.{Clause}
use Rattle.mz_environment.specs.declared.rows.Row.{Row}
use Rattle.mz_environment.specs.Keys.{row_has}
use Rattle.mz_fits.specs.Matching.{Fixed, unfixed, AllMatched, Accepted}
use Rattle.mz_types.proofs.OneRow.{RowsAs, rows_as}
use Rattle.mz_types.specs.RowTypes as rows
use Rattle.mz_types.specs.RowTypes.{radix_at, RowGives, RowAdds, RowsAdd, no_rows, and_row}

matched : (cs : List Clause) (ks : List (Option Constant)) (args formals : List Term) (r : Row) (first : Fixed) (scope : ℕ) (o p : Option Fixed) → scope ≡ length r.loci → first ≡ unfixed scope → formals ≡ r.args → AllMatched cs ks scope first formals args o → o ≡ p → AllMatched cs ks (length r.loci) (unfixed (length r.loci)) r.args args p
matched cs ks args formals r first scope o p es ef ea h eo =
    let one : AllMatched cs ks scope first formals args p = subst (AllMatched cs ks scope first formals args) eo h in
    let two : AllMatched cs ks scope first r.args args p = subst (λ (us : List Term). AllMatched cs ks scope first us args p) ea one in
    let three : AllMatched cs ks scope (unfixed scope) r.args args p = subst (λ (fs : Fixed). AllMatched cs ks scope fs r.args args p) ef two in
    subst (λ n. AllMatched cs ks n (unfixed n) r.args args p) es three

pub told_unmatched : (cs : List Clause) (ks : List (Option Constant)) (args formals : List Term) (r : Row) (first : Fixed) (scope : ℕ) (o : Option Fixed) → scope ≡ length r.loci → first ≡ unfixed scope → formals ≡ r.args → AllMatched cs ks scope first formals args o → o ≡ None → RowGives cs ks args r None
told_unmatched cs ks args formals r first scope o es ef ea h eo = rows.unmatched (matched cs ks args formals r first scope o None es ef ea h eo)

pub told_refused : (cs : List Clause) (ks : List (Option Constant)) (args formals : List Term) (r : Row) (first fs : Fixed) (scope : ℕ) (o : Option Fixed) (p : Option (List Term)) → scope ≡ length r.loci → first ≡ unfixed scope → formals ≡ r.args → AllMatched cs ks scope first formals args o → o ≡ Some fs → Accepted cs ks r.loci fs p → p ≡ None → RowGives cs ks args r None
told_refused cs ks args formals r first fs scope o p es ef ea h eo a ep = rows.refused fs (matched cs ks args formals r first scope o (Some fs) es ef ea h eo) (subst (Accepted cs ks r.loci fs) ep a)

pub told_gives : (cs : List Clause) (ks : List (Option Constant)) (args formals : List Term) (r : Row) (first fs : Fixed) (scope : ℕ) (o : Option Fixed) (p : Option (List Term)) (values : List Term) (x : Radix) → scope ≡ length r.loci → first ≡ unfixed scope → formals ≡ r.args → AllMatched cs ks scope first formals args o → o ≡ Some fs → Accepted cs ks r.loci fs p → p ≡ Some values → x ≡ radix_at values r.ty → RowGives cs ks args r (Some x)
told_gives cs ks args formals r first fs scope o p values x es ef ea h eo a ep er =
    subst (λ y. RowGives cs ks args r (Some y)) (sym er) (rows.gives fs values (matched cs ks args formals r first scope o (Some fs) es ef ea h eo) (subst (Accepted cs ks r.loci fs) ep a))

pub ruleset gives_rules = (told_unmatched, told_refused, told_gives)

pub told_other : (cs : List Clause) (ks : List (Option Constant)) (s : Sym) (args : List Term) (r : Row) (b : Bool) (out : List Radix) → b ≡ same_sym r.sym s → b ≡ false → out ≡ [] → RowAdds cs ks s args r out
told_other cs ks s args r b out same eb eo = subst (RowAdds cs ks s args r) (sym eo) (rows.of_other (sym same ∙ eb))

pub told_none : (cs : List Clause) (ks : List (Option Constant)) (s : Sym) (args : List Term) (r : Row) (b : Bool) (out : List Radix) (o : Option Radix) → b ≡ same_sym r.sym s → b ≡ true → RowGives cs ks args r o → o ≡ None → out ≡ [] → RowAdds cs ks s args r out
told_none cs ks s args r b out o same eb h eo ex = subst (RowAdds cs ks s args r) (sym ex) (rows.of_none (sym same ∙ eb) (subst (RowGives cs ks args r) eo h))

pub told_one : (cs : List Clause) (ks : List (Option Constant)) (s : Sym) (args : List Term) (r : Row) (b : Bool) (out after : List Radix) (o : Option Radix) (x : Radix) → b ≡ same_sym r.sym s → b ≡ true → RowGives cs ks args r o → o ≡ Some x → out ≡ [] → after ≡ out ++ x ∷ [] → RowAdds cs ks s args r after
told_one cs ks s args r b out after o x same eb h eo ex ea =
    subst (RowAdds cs ks s args r) (sym (ea ∙ ap (λ (ys : List Radix). ys ++ x ∷ []) ex)) (rows.of_one x (sym same ∙ eb) (subst (RowGives cs ks args r) eo h))

pub ruleset adds_rules = (told_other, told_none, told_one)

one_row_more : (cs : List Clause) (ks : List (Option Constant)) (s : Sym) (args : List Term) (rs : List Row) (xs ys : List Radix) (r : Row) → RowsAdd cs ks s args rs xs → RowAdds cs ks s args r ys → RowsAdd cs ks s args (rs ++ r ∷ []) (xs ++ ys)
one_row_more cs ks s args rs xs ys r no_rows h = subst (RowsAdd cs ks s args (r ∷ [])) (append-nil ys) (and_row r [] ys [] h no_rows)
one_row_more cs ks s args rs xs ys r (and_row q qs us vs a rest) h =
    subst (RowsAdd cs ks s args (q ∷ (qs ++ r ∷ []))) (sym (append_assoc us vs ys)) (and_row q (qs ++ r ∷ []) us (vs ++ ys) a (one_row_more cs ks s args qs vs ys r rest h))

taken : {A : Type 0} (qs : List A) (k : ℕ) (q : A) → k < length qs → q ≡ get_or qs k q → take (suc k) qs ≡ take k qs ++ q ∷ []
taken [] k q lt at = absurd (omega (arith, lt))
taken (x ∷ qs) zero q lt at = ap (λ y. y ∷ []) (sym at)
taken (x ∷ qs) (suc k) q lt at = ap (λ xs. x ∷ xs) (taken qs k q (omega (arith, lt)) at)

take_one_more : {A : Type 0} (qs : List A) (i : ℕ) (q : A) → i < length qs → q ≡ get_or qs i q → take (i + 1) qs ≡ take i qs ++ q ∷ []
take_one_more qs i q lt at = let e : (i + 1) ≡ suc i = omega arith in ap (λ n. take n qs) e ∙ taken qs i q lt at

pub told_start : {A : Type 0} (value : A → Row) (cs : List Clause) (ks : List (Option Constant)) (s : Sym) (args : List Term) (qs : List A) (out : List Radix) → out ≡ [] → RowsAdd cs ks s args (map value (take 0 qs)) out
told_start value cs ks s args qs out e = subst (λ xs. RowsAdd cs ks s args [] xs) (sym e) no_rows

pub told_turn : {A : Type 0} (value : A → Row) (cs : List Clause) (ks : List (Option Constant)) (s : Sym) (args : List Term) (qs : List A) (i : ℕ) (q : A) (r : Row) (out xs after : List Radix) → i < length qs → q ≡ get_or qs i q → r ≡ value q → RowsAdd cs ks s args (map value (take i qs)) out → RowAdds cs ks s args r xs → after ≡ out ++ xs → RowsAdd cs ks s args (map value (take (i + 1) qs)) after
told_turn value cs ks s args qs i q r out xs after lt at er so h ea =
    let rows : map value (take (i + 1) qs) ≡ map value (take i qs) ++ value q ∷ [] = ap (map value) (take_one_more qs i q lt at) ∙ map-append value (take i qs) (q ∷ []) in
    subst (λ rs. RowsAdd cs ks s args rs after) (sym rows)
    (subst (RowsAdd cs ks s args (map value (take i qs) ++ value q ∷ [])) (sym ea) (one_row_more cs ks s args (map value (take i qs)) out xs (value q) so (subst (λ (p : Row). RowAdds cs ks s args p xs) er h)))

-- rows of other symbols add nothing
own_or_other : (cs : List Clause) (ks : List (Option Constant)) (s : Sym) (args : List Term) (r : Row) (own rs : List Row) (xs : List Radix) (b : Bool) → same_sym r.sym s ≡ b → RowsAdd cs ks s args (if b then r ∷ own else own) xs → ((ys : List Radix) → RowsAdd cs ks s args own ys → RowsAdd cs ks s args rs ys) → RowsAdd cs ks s args (r ∷ rs) xs
own_or_other cs ks s args r own rs xs true e h more =
    let a : RowsAs cs ks s args (r ∷ own) xs = rows_as cs ks s args (r ∷ own) xs h in
    subst (RowsAdd cs ks s args (r ∷ rs)) (sym a.4) (and_row r rs a.0 a.1 a.2 (more a.1 a.3))
own_or_other cs ks s args r own rs xs false e h more = and_row r rs [] xs (rows.of_other e) (more xs h)

others_add_nothing : (cs : List Clause) (ks : List (Option Constant)) (s : Sym) (args : List Term) (rs : List Row) (xs : List Radix) → RowsAdd cs ks s args (filter (row_has s) rs) xs → RowsAdd cs ks s args rs xs
others_add_nothing cs ks s args [] xs h = h
others_add_nothing cs ks s args (r ∷ rs) xs h = own_or_other cs ks s args r (filter (row_has s) rs) rs xs (row_has s r) refl h (λ ys k. others_add_nothing cs ks s args rs ys k)

pub told_own : (cs : List Clause) (ks : List (Option Constant)) (s : Sym) (args : List Term) (own rs : List Row) (xs : List Radix) → own ≡ filter (row_has s) rs → RowsAdd cs ks s args own xs → RowsAdd cs ks s args rs xs
told_own cs ks s args own rs xs e h = others_add_nothing cs ks s args rs xs (subst (λ qs. RowsAdd cs ks s args qs xs) e h)

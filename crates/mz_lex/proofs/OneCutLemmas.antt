-- There is one cut.
use Rattle.std.proofs.Common.{◌≡◌, ℕ, suc, zero, Bool, true, false, not, ◌&&◌, eqb, List, [], ◌∷◌, ◌++◌, length, take, drop, refl, sym, ap, subst, ◌∙◌, arith}
use Rattle.std.specs.List.{list_all}
use Rattle.std.proofs.Math.Seq.{take-append_seam, drop-append_seam}
use borrow.Author.Tests.{eqb-true}
use Rattle.mz_base.specs.Place.{start, after, end_from}
use Rattle.mz_base.specs.declared.place.Place.{Place}
use Rattle.mz_base.specs.declared.token.Token.{Token}
use Rattle.mz_lex.specs.declared.lexeme.Lexeme.{Lexeme}
use Rattle.mz_lex.specs.Tokens.{is_separator, opens_comment, opens_pragma, opens_token, token_of, is_line_end, EndsLine, IsToken, IsBadByte, IsComment}
use Rattle.mz_lex.specs.Cut.{End, Whole, AtBadByte, AtPragma, AtTooManyTokens, Mode, Same, Stop, Switch, is_begin, is_border, Cuts, end, separator, comment, pragma, bad_byte, too_many, token, closing, switching, OneCut, HeadFirst}

-- what stands at the start of a text
data Front : Type 0 where
  nothing : Front
  skip : List ℕ → List ℕ → Front
  pragma_here : Front
  bad : Front
  word : List ℕ → List ℕ → Front

data Stands (ls : List Lexeme) : List ℕ → Front → Type 0 where
  at_end : Stands ls [] nothing
  at_separator : (b : ℕ) (bs : List ℕ) → is_separator b ≡ true → Stands ls (b ∷ bs) (skip (b ∷ []) bs)
  at_comment : (text c bs : List ℕ) → IsComment text c bs → Stands ls text (skip c bs)
  at_pragma : (text : List ℕ) → opens_pragma text ≡ true → Stands ls text pragma_here
  at_bad : (text : List ℕ) → IsBadByte ls text → Stands ls text bad
  at_token : (text w bs : List ℕ) → IsToken ls text w bs → Stands ls text (word w bs)

and_both : (t u : Bool) → (t && u) ≡ true → (t ≡ true) × (u ≡ true)
and_both true u h = (refl, h)
and_both false u h = cc

-- a pragma opens a comment, and what opens a comment is no separator
pragma_comment : (text : List ℕ) → opens_pragma text ≡ true → opens_comment text ≡ true
pragma_comment [] h = cc
pragma_comment (a ∷ []) h = absurd (no_two (eqb 58 a) h)
  where
    no_two : (t : Bool) → (t && false) ≡ true → ⊥
    no_two true e = cc
    no_two false e = cc
pragma_comment (a ∷ b ∷ bs) h =
    let first = and_both (eqb 58 a) _ h in
    let second = and_both (eqb 58 b) _ first.1 in
    rw (first.0, second.0) refl

separator_comment : (b : ℕ) (bs : List ℕ) → is_separator b ≡ true → opens_comment (b ∷ bs) ≡ true → ⊥
separator_comment b bs s o =
    let colon : b ≡ 58 = sym (eqb-true 58 b (and_both (eqb 58 b) _ o).0) in
    let no : is_separator b ≡ false = rw colon refl in
    cc

token_opens : (text : List ℕ) → opens_token text ≡ true → opens_comment text ≡ false
token_opens [] h = cc
token_opens (b ∷ bs) h = was_not (opens_comment (b ∷ bs)) (and_both (not (is_separator b)) (not (opens_comment (b ∷ bs))) h).1
  where
    was_not : (t : Bool) → not t ≡ true → t ≡ false
    was_not true e = cc
    was_not false e = refl

token_no_separator : (b : ℕ) (bs : List ℕ) → opens_token (b ∷ bs) ≡ true → is_separator b ≡ true → ⊥
token_no_separator b bs h s = was_not (is_separator b) (and_both (not (is_separator b)) (not (opens_comment (b ∷ bs))) h).0 s
  where
    was_not : (t : Bool) → not t ≡ true → t ≡ true → ⊥
    was_not true e f = cc
    was_not false e f = cc

-- two fronts of one text with one length are one
same_split : (v more w rest : List ℕ) → v ++ more ≡ w ++ rest → length v ≡ length w → (v ≡ w) × (more ≡ rest)
same_split v more w rest e n =
    let left : v ≡ w = sym (take-append_seam v more) ∙ (λ i. take (n i) (e i)) ∙ take-append_seam w rest in
    let right : more ≡ rest = sym (drop-append_seam v more) ∙ (λ i. drop (n i) (e i)) ∙ drop-append_seam w rest in
    (left, right)

word-one_token : (ls : List Lexeme) (text v more w rest : List ℕ) → IsToken ls text v more → IsToken ls text w rest → word v more ≡ word w rest
word-one_token ls text v more w rest a b =
    let same = same_split v more w rest (sym a.split ∙ b.split) (omega (arith, a.longest w rest b.split b.spells, b.longest v more a.split a.spells)) in
    λ i. word (same.0 i) (same.1 i)

no_bad : (ls : List Lexeme) (text w rest : List ℕ) → IsBadByte ls text → IsToken ls text w rest → ⊥
no_bad ls text w rest a b = let no = a.no_spelling w rest b.split in let yes = b.spells in cc

line_clash : (x y : ℕ) → x ≡ y → is_line_end x ≡ true → not (is_line_end y) ≡ true → ⊥
line_clash x y e h k =
    let same : is_line_end y ≡ true = subst (λ b. is_line_end b ≡ true) e h in
    let no : not (is_line_end y) ≡ false = rw same refl in
    cc

-- a line's part without an end, with what follows it
one_line : (v more w rest : List ℕ) → v ++ more ≡ w ++ rest → list_all (λ b. not (is_line_end b)) v ≡ true → list_all (λ b. not (is_line_end b)) w ≡ true → EndsLine more → EndsLine rest → (v ≡ w) × (more ≡ rest)
one_line [] more [] rest e av aw em er = (refl, e)
one_line [] [] (y ∷ w) rest e av aw em er = cc
one_line [] (x ∷ more) (y ∷ w) rest e av aw em er =
    let h : x ≡ y = cc in
    absurd (line_clash x y h em (and_both (not (is_line_end y)) _ aw).0)
one_line (x ∷ v) more [] [] e av aw em er = cc
one_line (x ∷ v) more [] (y ∷ rest) e av aw em er =
    let h : y ≡ x = cc in
    absurd (line_clash y x h er (and_both (not (is_line_end x)) _ av).0)
one_line (x ∷ v) more (y ∷ w) rest e av aw em er =
    let h : x ≡ y = cc in
    let t : v ++ more ≡ w ++ rest = cc in
    let same = one_line v more w rest t (and_both (not (is_line_end x)) _ av).1 (and_both (not (is_line_end y)) _ aw).1 em er in
    ((λ i. h i ∷ same.0 i), same.1)

skip-one_comment : (text v more w rest : List ℕ) → IsComment text v more → IsComment text w rest → skip v more ≡ skip w rest
skip-one_comment text v more w rest a b =
    let same = one_line v more w rest (sym a.split ∙ b.split) a.one_line b.one_line a.ends b.ends in
    λ i. skip (same.0 i) (same.1 i)

-- one thing stands at the start of a text

end_only : (ls : List Lexeme) (g : Front) → Stands ls [] g → g ≡ nothing
end_only ls g at_end = refl
end_only ls g (at_comment text c bs k) = let o = k.opens in cc
end_only ls g (at_pragma text h) = cc
end_only ls g (at_bad text k) = let o = k.opens in cc
end_only ls g (at_token text w bs k) = let o = k.opens in cc

separator_only : (ls : List Lexeme) (b : ℕ) (bs : List ℕ) (g : Front) → is_separator b ≡ true → Stands ls (b ∷ bs) g → g ≡ skip (b ∷ []) bs
separator_only ls b bs g s (at_separator a as' h) = refl
separator_only ls b bs g s (at_comment text c rest k) = absurd (separator_comment b bs s k.opens)
separator_only ls b bs g s (at_pragma text h) = absurd (separator_comment b bs s (pragma_comment (b ∷ bs) h))
separator_only ls b bs g s (at_bad text k) = absurd (token_no_separator b bs k.opens s)
separator_only ls b bs g s (at_token text w rest k) = absurd (token_no_separator b bs k.opens s)

comment_only : (ls : List Lexeme) (text c bs : List ℕ) (g : Front) → IsComment text c bs → Stands ls text g → g ≡ skip c bs
comment_only ls text c bs g k at_end = let o = k.opens in cc
comment_only ls text c bs g k (at_separator b rest s) = absurd (separator_comment b rest s k.opens)
comment_only ls text c bs g k (at_comment t d rest j) = skip-one_comment text d rest c bs j k
comment_only ls text c bs g k (at_pragma t h) = let o = k.no_pragma in cc
comment_only ls text c bs g k (at_bad t j) = let o = k.opens in let n = token_opens text j.opens in cc
comment_only ls text c bs g k (at_token t w rest j) = let o = k.opens in let n = token_opens text j.opens in cc

pragma_only : (ls : List Lexeme) (text : List ℕ) (g : Front) → opens_pragma text ≡ true → Stands ls text g → g ≡ pragma_here
pragma_only ls text g k at_end = cc
pragma_only ls text g k (at_separator b rest s) = absurd (separator_comment b rest s (pragma_comment (b ∷ rest) k))
pragma_only ls text g k (at_comment t d rest j) = let o = j.no_pragma in cc
pragma_only ls text g k (at_pragma t h) = refl
pragma_only ls text g k (at_bad t j) = let o = pragma_comment text k in let n = token_opens text j.opens in cc
pragma_only ls text g k (at_token t w rest j) = let o = pragma_comment text k in let n = token_opens text j.opens in cc

bad_only : (ls : List Lexeme) (text : List ℕ) (g : Front) → IsBadByte ls text → Stands ls text g → g ≡ bad
bad_only ls text g k at_end = let o = k.opens in cc
bad_only ls text g k (at_separator b rest s) = absurd (token_no_separator b rest k.opens s)
bad_only ls text g k (at_comment t d rest j) = let o = j.opens in let n = token_opens text k.opens in cc
bad_only ls text g k (at_pragma t h) = let o = pragma_comment text h in let n = token_opens text k.opens in cc
bad_only ls text g k (at_bad t j) = refl
bad_only ls text g k (at_token t w rest j) = absurd (no_bad ls text w rest k j)

token_only : (ls : List Lexeme) (text w bs : List ℕ) (g : Front) → IsToken ls text w bs → Stands ls text g → g ≡ word w bs
token_only ls text w bs g k at_end = let o = k.opens in cc
token_only ls text w bs g k (at_separator b rest s) = absurd (token_no_separator b rest k.opens s)
token_only ls text w bs g k (at_comment t d rest j) = let o = j.opens in let n = token_opens text k.opens in cc
token_only ls text w bs g k (at_pragma t h) = let o = pragma_comment text h in let n = token_opens text k.opens in cc
token_only ls text w bs g k (at_bad t j) = absurd (no_bad ls text w bs j k)
token_only ls text w bs g k (at_token t v rest j) = word-one_token ls text v rest w bs j k

-- what a cut is, by what stands at its start
abbrev MeansBorder : List Lexeme → Mode → ℕ → Place → List ℕ → List ℕ → List Token → End → Type 0
MeansBorder ls Same n p w bs ts e = ⊥
MeansBorder ls Stop n p w bs ts e = (ts ≡ token_of ls p w ∷ []) × (e ≡ Whole (end_from p w))
MeansBorder ls (Switch later) n p w bs ts e = (us : List Token) × (ts ≡ token_of ls p w ∷ us) × Cuts later Same n (end_from p w) bs us e

abbrev MeansWord : List Lexeme → Mode → ℕ → Place → List ℕ → List ℕ → Bool → List Token → End → Type 0
MeansWord ls h n p w bs true ts e = MeansBorder ls h n p w bs ts e
MeansWord ls h n p w bs false ts e = (us : List Token) × (ts ≡ token_of ls p w ∷ us) × Cuts ls h n (end_from p w) bs us e

abbrev Means : List Lexeme → Mode → ℕ → Place → Front → List Token → End → Type 0
Means ls h n p nothing ts e = (ts ≡ []) × (e ≡ Whole p)
Means ls h n p (skip c bs) ts e = Cuts ls h n (end_from p c) bs ts e
Means ls h n p pragma_here ts e = (ts ≡ []) × (e ≡ AtPragma p)
Means ls h n p bad ts e = (ts ≡ []) × (e ≡ AtBadByte p)
Means ls h zero p (word w bs) ts e = (ts ≡ []) × (e ≡ AtTooManyTokens p)
Means ls h (suc n) p (word w bs) ts e = MeansWord ls h n p w bs (is_border h w) ts e

record Opened (ls : List Lexeme) (h : Mode) (n : ℕ) (p : Place) (text : List ℕ) (ts : List Token) (e : End) : Type 0 where
  front : Front
  stands : Stands ls text front
  means : Means ls h n p front ts e

opened : (ls : List Lexeme) (h : Mode) (n : ℕ) (p : Place) (text : List ℕ) (ts : List Token) (e : End) → Cuts ls h n p text ts e → Opened ls h n p text ts e
opened ls h n p text ts e end = record { front = nothing; stands = at_end; means = (refl, refl) }
opened ls h n p text ts e (separator b bs us f s d) = record { front = skip (b ∷ []) bs; stands = at_separator b bs s; means = d }
opened ls h n p text ts e (comment t c bs us f k d) = record { front = skip c bs; stands = at_comment t c bs k; means = d }
opened ls h n p text ts e (pragma t k) = record { front = pragma_here; stands = at_pragma t k; means = (refl, refl) }
opened ls h n p text ts e (bad_byte t k) = record { front = bad; stands = at_bad t k; means = (refl, refl) }
opened ls h n p text ts e (too_many t w bs k) = record { front = word w bs; stands = at_token t w bs k; means = (refl, refl) }
opened ls h n p text ts e (token {n = m} t w bs us f k c d) = record { front = word w bs; stands = at_token t w bs k; means = subst (λ b. MeansWord ls h m p w bs b ts e) (sym c) (us, refl, d) }
opened ls h n p text ts e (closing {n = m} t w bs k c) = record { front = word w bs; stands = at_token t w bs k; means = subst (λ b. MeansWord ls Stop m p w bs b ts e) (sym c) (refl, refl) }
opened ls h n p text ts e (switching {later = later} {n = m} t w bs us f k c d) = record { front = word w bs; stands = at_token t w bs k; means = subst (λ b. MeansWord ls (Switch later) m p w bs b ts e) (sym c) (us, refl, d) }

-- what the other cut means where this stands at its start
at_front : (ls : List Lexeme) (h : Mode) (n : ℕ) (p : Place) (text : List ℕ) (ts : List Token) (e : End) (f : Front) → ((g : Front) → Stands ls text g → g ≡ f) → Cuts ls h n p text ts e → Means ls h n p f ts e
at_front ls h n p text ts e f only d =
    let o = opened ls h n p text ts e d in
    subst (λ g. Means ls h n p g ts e) (only o.front o.stands) o.means

pub one_cut : (ls : List Lexeme) (h : Mode) (n : ℕ) (p : Place) (text : List ℕ) (ts us : List Token) (e f : End) → Cuts ls h n p text ts e → Cuts ls h n p text us f → (ts ≡ us) × (e ≡ f)
one_cut ls h n p text ts us e f end d2 =
    let m = at_front ls h n p [] us f nothing (end_only ls) d2 in (sym m.0, sym m.1)
one_cut ls h n p text ts us e f (separator b bs ts' e' s d) d2 =
    let m = at_front ls h n p (b ∷ bs) us f (skip (b ∷ []) bs) (λ g. separator_only ls b bs g s) d2 in
    one_cut ls h n (after p b) bs ts us e f d m
one_cut ls h n p text ts us e f (comment t c bs ts' e' k d) d2 =
    let m = at_front ls h n p text us f (skip c bs) (λ g. comment_only ls text c bs g k) d2 in
    one_cut ls h n (end_from p c) bs ts us e f d m
one_cut ls h n p text ts us e f (pragma t k) d2 =
    let m = at_front ls h n p text us f pragma_here (λ g. pragma_only ls text g k) d2 in (sym m.0, sym m.1)
one_cut ls h n p text ts us e f (bad_byte t k) d2 =
    let m = at_front ls h n p text us f bad (λ g. bad_only ls text g k) d2 in (sym m.0, sym m.1)
one_cut ls h n p text ts us e f (too_many t w bs k) d2 =
    let m = at_front ls h 0 p text us f (word w bs) (λ g. token_only ls text w bs g k) d2 in (sym m.0, sym m.1)
one_cut ls h n p text ts us e f (token {n = m} t w bs ts' e' k c d) d2 =
    let at = at_front ls h (suc m) p text us f (word w bs) (λ g. token_only ls text w bs g k) d2 in
    let it = subst (λ b. MeansWord ls h m p w bs b us f) c at in
    let rest = one_cut ls h m (end_from p w) bs ts' it.0 e f d it.2 in
    ((λ i. token_of ls p w ∷ rest.0 i) ∙ sym it.1, rest.1)
one_cut ls h n p text ts us e f (closing {n = m} t w bs k c) d2 =
    let at = at_front ls Stop (suc m) p text us f (word w bs) (λ g. token_only ls text w bs g k) d2 in
    let it = subst (λ b. MeansWord ls Stop m p w bs b us f) c at in
    (sym it.0, sym it.1)
one_cut ls h n p text ts us e f (switching {later = later} {n = m} t w bs ts' e' k c d) d2 =
    let at = at_front ls (Switch later) (suc m) p text us f (word w bs) (λ g. token_only ls text w bs g k) d2 in
    let it = subst (λ b. MeansWord ls (Switch later) m p w bs b us f) c at in
    let rest = one_cut later Same m (end_from p w) bs ts' it.0 e f d it.2 in
    ((λ i. token_of ls p w ∷ rest.0 i) ∙ sym it.1, rest.1)

pub only_cut : (ls : List Lexeme) (h : Mode) (bytes : List ℕ) → OneCut ls h bytes
only_cut ls h bytes ts us e f = one_cut ls h 200000 start bytes ts us e f

-- the tokens up to the first `begin` come first in the cut that goes on behind it
head_first : (ls later : List Lexeme) (h : Mode) (n : ℕ) (p : Place) (text : List ℕ) (ts us : List Token) (e f : End) → h ≡ Stop → Cuts ls h n p text ts e → Cuts ls (Switch later) n p text us f → (vs : List Token) × (us ≡ ts ++ vs)
head_first ls later h n p text ts us e f s end d2 = (us, refl)
head_first ls later h n p text ts us e f s (separator b bs ts' e' o d) d2 =
    let m = at_front ls (Switch later) n p (b ∷ bs) us f (skip (b ∷ []) bs) (λ g. separator_only ls b bs g o) d2 in
    head_first ls later h n (after p b) bs ts us e f s d m
head_first ls later h n p text ts us e f s (comment t c bs ts' e' k d) d2 =
    let m = at_front ls (Switch later) n p text us f (skip c bs) (λ g. comment_only ls text c bs g k) d2 in
    head_first ls later h n (end_from p c) bs ts us e f s d m
head_first ls later h n p text ts us e f s (pragma t k) d2 = (us, refl)
head_first ls later h n p text ts us e f s (bad_byte t k) d2 = (us, refl)
head_first ls later h n p text ts us e f s (too_many t w bs k) d2 = (us, refl)
head_first ls later h n p text ts us e f s (token {n = m} t w bs ts' e' k c d) d2 =
    let at = at_front ls (Switch later) (suc m) p text us f (word w bs) (λ g. token_only ls text w bs g k) d2 in
    let goes_on : is_begin w ≡ false = subst (λ x. is_border x w ≡ false) s c in
    let it = subst (λ b. MeansWord ls (Switch later) m p w bs b us f) goes_on at in
    let rest = head_first ls later h m (end_from p w) bs ts' it.0 e f s d it.2 in
    (rest.0, it.1 ∙ (λ i. token_of ls p w ∷ rest.1 i))
head_first ls later h n p text ts us e f s (closing {n = m} t w bs k c) d2 =
    let at = at_front ls (Switch later) (suc m) p text us f (word w bs) (λ g. token_only ls text w bs g k) d2 in
    let it = subst (λ b. MeansWord ls (Switch later) m p w bs b us f) c at in
    (it.0, it.1)
head_first ls later h n p text ts us e f s (switching t w bs ts' e' k c d) d2 = absurd (no_stop _ s)
  where
    is_stop : Mode → Bool
    is_stop Same = false
    is_stop Stop = true
    is_stop (Switch l) = false

    no_stop : (l : List Lexeme) → Switch l ≡ Stop → ⊥
    no_stop l e = let no : false ≡ true = ap is_stop e in cc

pub only_head_first : (ls later : List Lexeme) (bytes : List ℕ) → HeadFirst ls later bytes
only_head_first ls later bytes ts us e f = head_first ls later Stop 200000 start bytes ts us e f refl

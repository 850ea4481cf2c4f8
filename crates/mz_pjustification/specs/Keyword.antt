-- What a token with its mark is to a parser of proofs, where it is no token of an expression.
use Rattle.std.specs.Prelude.{ℕ, ◌==◌, List, codes, if◌then◌else◌}
use Rattle.std.specs.Str.{bytes_eq}
use Rattle.mz_base.specs.declared.token.TokenKind.{TokenKind}
use Rattle.mz_base.specs.declared.token.TokenKind.TheVariants as kinds
use Rattle.mz_base.specs.declared.token.Mark.{Mark}
use Rattle.mz_base.specs.declared.token.Mark.TheVariants as marks
use Rattle.mz_base.specs.declared.token.MarkedToken.{MarkedToken}
use Rattle.mz_pjustification.specs.declared.keyword.Keyword.{Keyword}
use Rattle.mz_pjustification.specs.declared.keyword.Keyword.TheVariants as keywords

-- reserved words, in the order of the alphabet
unfoldable pub later_keyword : List ℕ → Keyword
later_keyword s =
    (if bytes_eq s (codes "let") then keywords.Let else
    (if bytes_eq s (codes "means") then keywords.Means else
    (if bytes_eq s (codes "now") then keywords.Now else
    (if bytes_eq s (codes "per") then keywords.Per else
    (if bytes_eq s (codes "proof") then keywords.Proof else
    (if bytes_eq s (codes "reconsider") then keywords.Reconsider else
    (if bytes_eq s (codes "sch") then keywords.Sch else
    (if bytes_eq s (codes "such") then keywords.Such else
    (if bytes_eq s (codes "suppose") then keywords.Suppose else
    (if bytes_eq s (codes "take") then keywords.Take else
    (if bytes_eq s (codes "that") then keywords.That else
    (if bytes_eq s (codes "then") then keywords.Then else
    (if bytes_eq s (codes "thus") then keywords.Thus else keywords.Other)))))))))))))

unfoldable pub reserved_keyword : List ℕ → Keyword
reserved_keyword s =
    (if bytes_eq s (codes "and") then keywords.And else
    (if bytes_eq s (codes "as") then keywords.As else
    (if bytes_eq s (codes "assume") then keywords.Assume else
    (if bytes_eq s (codes "by") then keywords.By else
    (if bytes_eq s (codes "cases") then keywords.Cases else
    (if bytes_eq s (codes "consider") then keywords.Consider else
    (if bytes_eq s (codes "def") then keywords.Def else
    (if bytes_eq s (codes "deffunc") then keywords.Deffunc else
    (if bytes_eq s (codes "defpred") then keywords.Defpred else
    (if bytes_eq s (codes "end") then keywords.End else
    (if bytes_eq s (codes "from") then keywords.From else
    (if bytes_eq s (codes "given") then keywords.Given else
    (if bytes_eq s (codes "hence") then keywords.Hence else
    (if bytes_eq s (codes "hereby") then keywords.Hereby else later_keyword s))))))))))))))

unfoldable pub special_keyword : List ℕ → Keyword
special_keyword s =
    (if bytes_eq s (codes ":") then keywords.Colon else
    (if bytes_eq s (codes ";") then keywords.Semicolon else
    (if bytes_eq s (codes ".=") then keywords.Link else keywords.Other)))

-- a token without a mark
unfoldable pub plain_keyword : TokenKind → List ℕ → Keyword
plain_keyword kinds.Reserved s = reserved_keyword s
plain_keyword kinds.Special s = special_keyword s
plain_keyword kinds.Numeral s = keywords.Numeral
plain_keyword kinds.Identifier s = keywords.Other
plain_keyword (kinds.Symbol k) s = keywords.Other

abbrev pub unranked_keyword : Mark → TokenKind → List ℕ → Keyword
unranked_keyword marks.NotComma k s = plain_keyword k s
unranked_keyword _ k s = keywords.Other

-- no such token has a priority
unfoldable pub keyword_of : MarkedToken → Keyword
keyword_of t = (if t.token.priority == 0 then unranked_keyword t.mark t.token.kind t.token.spelling else keywords.Other)

-- the number of a keyword, by which keywords are compared
abbrev pub number_of : Keyword → ℕ
number_of keywords.And = 0
number_of keywords.As = 1
number_of keywords.Assume = 2
number_of keywords.By = 3
number_of keywords.Cases = 4
number_of keywords.Consider = 5
number_of keywords.Def = 6
number_of keywords.Deffunc = 7
number_of keywords.Defpred = 8
number_of keywords.End = 9
number_of keywords.From = 10
number_of keywords.Given = 11
number_of keywords.Hence = 12
number_of keywords.Hereby = 13
number_of keywords.Let = 14
number_of keywords.Means = 15
number_of keywords.Now = 16
number_of keywords.Per = 17
number_of keywords.Proof = 18
number_of keywords.Reconsider = 19
number_of keywords.Sch = 20
number_of keywords.Such = 21
number_of keywords.Suppose = 22
number_of keywords.Take = 23
number_of keywords.That = 24
number_of keywords.Then = 25
number_of keywords.Thus = 26
number_of keywords.Colon = 27
number_of keywords.Semicolon = 28
number_of keywords.Link = 29
number_of keywords.Numeral = 30
number_of keywords.Other = 31

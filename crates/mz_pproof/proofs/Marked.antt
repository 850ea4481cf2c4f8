-- From the tokens with their marks to the tokens of a text, and from a reading to the answer of a parse.
use Rattle.std.proofs.Common.{◌≡◌, ℕ, List, Result, Ok, Err, subst}
use Rattle.mz_base.specs.declared.place.Place.{Place}
use Rattle.mz_base.specs.TokenList.{TokenList}
use Rattle.mz_base.specs.declared.token.MarkedToken.{MarkedToken}
use Rattle.mz_marks.specs.Marks.{AreMarked}
use Rattle.mz_pterm.specs.declared.parse.ParseFault.{ParseFault}
use Rattle.mz_pterm.specs.declared.parse.ParseFault.TheVariants.{Memory, Unexpected, TooDeep, EndsEarly}
use Rattle.mz_pproof.specs.declared.forms.ProofTree.{ProofTree}
use Rattle.mz_pproof.specs.declared.forms.ProofForm as rust
use Rattle.mz_pproof.specs.Proof.{IsRead, Parses}

parses : (form : rust.ProofForm) (tokens : TokenList) (from : ℕ) (result : Result (ProofTree × ℕ) ParseFault) (all : List MarkedToken) → AreMarked tokens.items all → IsRead form all tokens.end from result → Parses form tokens from result
parses form tokens from (Ok p) all m h = (all, m, h)
parses form tokens from (Err Memory) all m h = tt
parses form tokens from (Err (Unexpected place)) all m h = (all, m, h)
parses form tokens from (Err (TooDeep place)) all m h = (all, m, h)
parses form tokens from (Err (EndsEarly place)) all m h = (all, m, h)

pub parses_marked : (form : rust.ProofForm) (tokens : TokenList) (from : ℕ) (result : Result (ProofTree × ℕ) ParseFault) (all handed : List MarkedToken) (end : Place) → AreMarked tokens.items all → handed ≡ all → end ≡ tokens.end → IsRead form handed end from result → Parses form tokens from result
parses_marked form tokens from result all handed end m e f h =
    let At : List MarkedToken → Type 0 = λ z. IsRead form z tokens.end from result in
    let To : Place → Type 0 = λ z. IsRead form handed z from result in
    parses form tokens from result all m (subst At e (subst To f h))

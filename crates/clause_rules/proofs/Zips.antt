-- Pairs of the terms at the same places of two lists.
use Rattle.std.specs.Prelude.{ℕ, ◌+◌, ◌<◌, ◌≡◌, List, [], ◌∷◌, ◌++◌, length, take, refl}
use Rattle.std.proofs.Common.{ap, arith, get_or, zero, suc, add-one, sym, ◌∙◌}
use Rattle.fof_terms.specs.declared.term.Term.{Term}
use Rattle.unify_terms.specs.declared.pair.Pair.{Pair}
use Rattle.clause_rules.specs.Ways.{pair_of, zip_pairs}

zip_more : (ts us : List Term) (i : ℕ) (d e : Term) → i < length ts → i < length us → zip_pairs (take (suc i) ts) (take (suc i) us) ≡ zip_pairs (take i ts) (take i us) ++ pair_of (get_or ts i d) (get_or us i e) ∷ []
zip_more [] us i d e h g = absurd (omega arith)
zip_more (t ∷ ts) [] i d e h g = absurd (omega arith)
zip_more (t ∷ ts) (u ∷ us) zero d e h g = refl
zip_more (t ∷ ts) (u ∷ us) (suc i) d e h g = ap (λ ps. pair_of t u ∷ ps) (zip_more ts us i d e (omega arith) (omega arith))

pub zip_take : (ts us : List Term) (i : ℕ) (d e : Term) → i < length ts → length ts ≡ length us → zip_pairs (take (i + 1) ts) (take (i + 1) us) ≡ zip_pairs (take i ts) (take i us) ++ pair_of (get_or ts i d) (get_or us i e) ∷ []
zip_take ts us i d e h same = rw add-one (zip_more ts us i d e h (omega arith))

-- one pair more
pub zip_grows : (ts us : List Term) (i : ℕ) (t u : Term) (pairs made : List Pair) (p : Pair) → i < length ts → length ts ≡ length us → t ≡ get_or ts i t → u ≡ get_or us i u → pairs ≡ zip_pairs (take i ts) (take i us) → p ≡ pair_of t u
    → made ≡ pairs ++ p ∷ [] → made ≡ zip_pairs (take (i + 1) ts) (take (i + 1) us)
zip_grows ts us i t u pairs made p h same is js e f m =
    let both : pair_of t u ≡ pair_of (get_or ts i t) (get_or us i u) = ap (λ x. pair_of x u) is ∙ ap (pair_of (get_or ts i t)) js in
    m ∙ ap (λ ps. ps ++ p ∷ []) e ∙ ap (λ q. zip_pairs (take i ts) (take i us) ++ q ∷ []) (f ∙ both) ∙ sym (zip_take ts us i t u h same)

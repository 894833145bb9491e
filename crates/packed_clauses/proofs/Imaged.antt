-- Instances as bytes.
use Rattle.std.specs.Prelude.{ℕ, ◌+◌, ◌<◌, ◌↔◌, ◌==◌, IsTrue, List, [], ◌∷◌, ◌++◌, ◌≡◌, get_or, length, map, remove, take, drop, slice_get, Some, None, refl}
use Rattle.std.proofs.Common.{ap, sym, ◌∙◌, arith, zero, suc, add-one, append_assoc}
use Rattle.std.proofs.lemmas.Bool.{eq-eqb, eqb-true}
use Rattle.std.proofs.lemmas.List.{map-append, length-map, length-append, nil_from_length}
use Rattle.std.proofs.lemmas.List.Edits.{length-remove}
use Rattle.std.proofs.lemmas.Option.{get_or_from_slice_get}
use Rattle.fof_terms.specs.declared.term.Term.{Term, Var}
use Rattle.clause_form.specs.declared.clause.Lit.{Lit}
use Rattle.clause_form.specs.Images.{image}
use Rattle.clause_form.proofs.ImagesFacts.{image-Var}
use Rattle.packed_clauses.specs.Instances.{given}
use Rattle.packed_clauses.specs.code.Spelling.{spelled_clause, spelled_lits, spelled_sorts, spelled_atom}
use Rattle.packed_clauses.specs.Reading.{clause_read}
use Rattle.packed_clauses.proofs.Read.{clause_again}

pub given_image : (images : List Term) (t : Term) (k : ℕ) (u : Term) → t ≡ Var k → slice_get images k ≡ Some u → u ≡ image (given images) t
given_image images t k u is at = sym (ap (image (given images)) is ∙ image-Var (given images) k ∙ get_or_from_slice_get images k u (Var k) at)

-- a variable without an image stays
pub no_image : (images : List Term) (t : Term) (k : ℕ) → t ≡ Var k → slice_get images k ≡ None → t ≡ image (given images) t
no_image images t k is none = is ∙ sym (ap (image (given images)) is ∙ image-Var (given images) k ∙ past images k (Var k) none) where
  past : (xs : List Term) (k : ℕ) (d : Term) → slice_get xs k ≡ None → get_or xs k d ≡ d
  past [] k d h = refl
  past (x ∷ xs) zero d h = cc
  past (x ∷ xs) (suc k) d h = past xs k d h

-- literals one after the other
pub both_spelled : (ks ls : List Lit) → spelled_lits (ks ++ ls) ≡ spelled_lits ks ++ spelled_lits ls
both_spelled [] ls = refl
both_spelled (k ∷ ks) ls =
    ap (λ (xs : List ℕ). spelled_atom k.positive k.atom ++ xs) (both_spelled ks ls)
    ∙ sym (append_assoc (spelled_atom k.positive k.atom) (spelled_lits ks) (spelled_lits ls))

-- what becomes of the literals but the one, and of the rest, written in three parts
instances_written : (s r : Lit → Lit) (sorts : List ℕ) (lits rest back : List Lit) (at : ℕ) (none first second third bytes : List ℕ) → back ≡ drop (at + 1) lits → none ≡ [] → first ≡ none ++ spelled_sorts sorts
    → second ≡ first ++ spelled_lits (map r (map s (take at lits))) → third ≡ second ++ spelled_lits (map r (map s back)) → bytes ≡ third ++ spelled_lits (map r (map s rest))
    → bytes ≡ spelled_clause (record { sorts = sorts; lits = map r (map s (remove lits at ++ rest)) })
instances_written s r sorts lits rest back at none first second third bytes back_is none_is a b c d =
    let front = map r (map s (take at lits)) in
    let behind = map r (map s (drop (suc at) lits)) in
    let last = map r (map s rest) in
    let sides : map r (map s (remove lits at ++ rest)) ≡ (front ++ behind) ++ last =
    ap (map r) (map-append s (remove lits at) rest ∙ ap (λ (xs : List Lit). xs ++ map s rest) (map-append s (take at lits) (drop (suc at) lits)))
    ∙ map-append r (map s (take at lits) ++ map s (drop (suc at) lits)) (map s rest) ∙ ap (λ (xs : List Lit). xs ++ last) (map-append r (map s (take at lits)) (map s (drop (suc at) lits))) in
    let parts : spelled_lits ((front ++ behind) ++ last) ≡ (spelled_lits front ++ spelled_lits behind) ++ spelled_lits last =
    both_spelled (front ++ behind) last ∙ ap (λ (xs : List ℕ). xs ++ spelled_lits last) (both_spelled front behind) in
    let start : first ≡ spelled_sorts sorts = a ∙ ap (λ (xs : List ℕ). xs ++ spelled_sorts sorts) none_is in
    d
    ∙ ap (λ (xs : List ℕ). xs ++ spelled_lits last)
    (c ∙ ap (λ (ls : List Lit). second ++ spelled_lits (map r (map s ls))) (rw add-one at back_is)
    ∙ ap (λ (xs : List ℕ). xs ++ spelled_lits behind) (b ∙ ap (λ (xs : List ℕ). xs ++ spelled_lits front) start)
    ∙ append_assoc (spelled_sorts sorts) (spelled_lits front) (spelled_lits behind))
    ∙ append_assoc (spelled_sorts sorts) (spelled_lits front ++ spelled_lits behind) (spelled_lits last)
    ∙ ap (λ (xs : List ℕ). spelled_sorts sorts ++ xs) (sym (ap spelled_lits sides ∙ parts))

-- and read again
pub instances_again : (s r : Lit → Lit) (sorts : List ℕ) (lits rest back : List Lit) (at : ℕ) (none first second third bytes slice kept : List ℕ) → back ≡ drop (at + 1) lits → none ≡ [] → first ≡ none ++ spelled_sorts sorts
    → second ≡ first ++ spelled_lits (map r (map s (take at lits))) → third ≡ second ++ spelled_lits (map r (map s back)) → bytes ≡ third ++ spelled_lits (map r (map s rest)) → slice ≡ bytes → kept ≡ slice
    → clause_read kept ≡ record { sorts = sorts; lits = map r (map s (remove lits at ++ rest)) }
instances_again s r sorts lits rest back at none first second third bytes slice kept back_is none_is a b c d lent copied =
    ap clause_read (copied ∙ lent ∙ instances_written s r sorts lits rest back at none first second third bytes back_is none_is a b c d)
    ∙ clause_again (record { sorts = sorts; lits = map r (map s (remove lits at ++ rest)) })

-- whether nothing is left
pub nothing_left : (s r : Lit → Lit) (lits rest : List Lit) (at : ℕ) → at < length lits
    → IsTrue (length lits + length rest == 1) ↔ (map r (map s (remove lits at ++ rest)) ≡ [])
nothing_left s r lits rest at within =
    let left = map r (map s (remove lits at ++ rest)) in
    let one_fewer = length-remove lits at within in
    let many : length left ≡ length (remove lits at) + length rest =
    length-map (map s (remove lits at ++ rest)) r ∙ length-map (remove lits at ++ rest) s ∙ length-append (remove lits at) rest in (
      (λ h. nil_from_length left (let one = eqb-true (length lits + length rest) 1 h in omega (arith, many, one_fewer, one))),
      (λ h. eq-eqb (length lits + length rest) 1 (let none = sym many ∙ ap length h in omega (arith, one_fewer, none))),
    )

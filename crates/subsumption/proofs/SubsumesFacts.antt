-- Laws of subsumption.
use Rattle.std.specs.Prelude.{ℕ, ◌≡◌, List, [], ◌∷◌, ◌++◌, map, length, Some, slice_get, refl}
use Rattle.std.proofs.Common.{sym, subst, ◌∙◌, inl}
use Rattle.fof_terms.specs.declared.term.Term.{Term}
use Rattle.fof_terms.specs.Vocabulary.{Vocabulary}
use Rattle.clause_form.specs.declared.clause.Lit.{Lit}
use Rattle.clause_form.specs.declared.clause.Clause.{Clause}
use Rattle.clause_form.specs.Images.{image}
use Rattle.clause_form.specs.Covers.{lit_image, IsSame, scope_of, AreSorted, IsInstance}
use Rattle.clause_form.proofs.ClauseLaws.{lit_image_image, same_image, get_image, lits_agree, sorted_more, carried, carried_images, carried_agrees, images_then}
use Rattle.subsumption.specs.Subsumes.{Subsumes}

-- what subsumes a clause subsumes each instance of it
pub subsumes_instance : (v : Vocabulary) (m c e : Clause) → AreSorted v (scope_of c) c.lits → IsInstance v c e → Subsumes v m c → Subsumes v m e
subsumes_instance v m c e sorted is h =
    let more = h.0 in
    let r : ℕ → Term = h.1 in
    let by = h.3 in
    let t : ℕ → Term = carried (length (scope_of c)) (length (scope_of e)) is.0 in
    let same : e.lits ≡ map (lit_image t) c.lits =
    is.1.same ∙ lits_agree v (scope_of c) is.0 t (carried_agrees v (scope_of c) (scope_of e) more is.0 is.1.images) c.lits sorted in (
      more,
      λ k. image t (r k),
      h.2,
      record {
        images = images_then v (scope_of m) (scope_of c ++ more) (scope_of e ++ more) r t by.images (carried_images v (scope_of c) (scope_of e) more is.0 is.1.images);
        stands = λ i k at.
            let there = by.stands i k at in (
              lit_image t there.0,
              subst (λ (ls : List Lit). slice_get ls (h.2 i) ≡ Some (lit_image t there.0)) (sym same) (get_image t c.lits (h.2 i) there.0 there.1),
              subst (λ (l : Lit). IsSame l (lit_image t there.0)) (lit_image_image t r k) (same_image t (lit_image r k) there.0 there.2),
            );
        apart = by.apart;
      },
    )

-- a clause subsumes its instances
pub instance_subsumed : (v : Vocabulary) (c e : Clause) → IsInstance v c e → Subsumes v c e
instance_subsumed v c e is = (
  [],
  is.0,
  λ i. i,
  record {
    images = record { sorted = λ k r h. sorted_more v (scope_of e) [] (is.0 k) r (is.1.images.sorted k r h) };
    stands = λ i k at. (
      lit_image is.0 k,
      subst (λ (ls : List Lit). slice_get ls i ≡ Some (lit_image is.0 k)) (sym is.1.same) (get_image is.0 c.lits i k at),
      inl refl,
    );
    apart = λ i j within inside same. same;
  },
)

none_there : (lits : List Lit) → ((k : Lit) → slice_get lits 0 ≡ Some k → ⊥) → lits ≡ []
none_there [] h = refl
none_there (k ∷ lits) h = absurd (h k refl)

-- an empty clause is subsumed by an empty one alone
pub empty_subsumed : (v : Vocabulary) (m e : Clause) → Subsumes v m e → e.lits ≡ [] → m.lits ≡ []
empty_subsumed v m e h is = none_there m.lits (λ k at.
    let there = h.3.stands 0 k at in
    let none : slice_get [] (h.2 0) ≡ Some there.0 = subst (λ (ls : List Lit). slice_get ls (h.2 0) ≡ Some there.0) is there.1 in
    cc)

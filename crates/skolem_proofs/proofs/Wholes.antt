-- The walk through a whole normal form.
use Rattle.std.specs.Prelude.{ℕ, ◌≡◌, ◌+◌, ◌≤◌, List, [], ◌++◌, length, drop}
use Rattle.std.proofs.Common.{ap, sym, subst, ◌∙◌, arith}
use Rattle.std.proofs.lemmas.List.{append-nil}
use Rattle.fof_terms.specs.declared.form.Form.{Form, Imp}
use Rattle.fof_terms.specs.Vocabulary.{Vocabulary}
use Rattle.clause_form.proofs.SizeLaws.{depth_within_size}
use Rattle.clause_form.specs.Sizes.{norm_size_of}
use Rattle.kernel.specs.Proves.{Proves}
use Rattle.kernel.specs.declared.entry.Entry.{Entry}
use Rattle.kernel.specs.declared.proof.Proof.{Proof}
use Rattle.skolem_fresh.specs.declared.just.Use.{Use}
use Rattle.skolem_fresh.specs.Choosing.{IsWithin}
use Rattle.skolem_fresh.specs.SkolemRule.{IsSkolemized}
use Rattle.skolem_proofs.specs.Choosing.{IsWitnessedBy}
use Rattle.skolem_proofs.specs.code.Witnessed.{IsWitnessed}
use Rattle.skolem_proofs.specs.code.Witnessing.{Goes, MayGo, Went}
use Rattle.skolem_proofs.proofs.Admitted.{enters, told_lacks}
use Rattle.skolem_proofs.proofs.Implied.{implies, choose_in_turn, wider}

module _ (uses : List Use) (norm : Form) (start : List Entry) (es : start ≡ []) where
  abbrev all : List Use
  all = drop (length start) uses

  from_first : all ≡ uses ++ []
  from_first = ap (λ (xs : List Entry). drop (length xs) uses) es ∙ sym (append-nil uses)

  begins : (v : Vocabulary) (scope : List ℕ) (b : Form) → IsSkolemized v scope uses norm b → Goes v scope norm all
  begins v scope b h = record { taken = uses; after = []; result = b; parts = from_first; is = h }

  pub may_begin : (v : Vocabulary) (scope : List ℕ) (b : Form) → norm_size_of norm ≤ 100000 → IsWithin v scope norm → IsSkolemized v scope uses norm b → MayGo v scope norm all
  may_begin v scope b small within h = record { small = small; within = within; goes = begins v scope b h }

  module _ (first : ℕ) (new : List Entry) (form : Form) (part : Proof) (small : norm_size_of norm ≤ 100000)
      (gone : (v : Vocabulary) (scope : List ℕ) (g : Goes v scope norm all) → Went v scope norm all (drop (length new) uses) g (first + length start) start new form part) where
    is_made : (v : Vocabulary) (scope : List ℕ) (b : Form) → IsSkolemized v scope uses norm b → IsWitnessed v scope first uses norm form new part × (form ≡ b)
    unfolding begins
    is_made v scope b h =
        let w = gone v scope (begins v scope b h) in
        let told : new ≡ w.told = w.gained ∙ ap (λ (xs : List Entry). xs ++ w.told) es in
        let number : first + length start ≡ first = (let none : length start ≡ 0 = ap length es in omega arith) in
        (subst (λ k. IsWitnessed v scope k uses norm form new part) number (subst (λ xs. IsWitnessed v scope (first + length start) uses norm form xs part) (sym told) w.is), w.same)

    pub witnessed : IsWitnessedBy uses norm first (record { form = form; choices = new; proof = part })
    witnessed = record {
      form = λ v scope b h. (is_made v scope b h).1;
      choose = λ v scope b h. choose_in_turn v scope first uses norm form new part (is_made v scope b h).0;
      enter = λ t scope b h within fresh absent. enters t scope first uses norm form new part (is_made t.vocabulary scope b h).0 within fresh.distinct fresh.fresh absent;
      speaks = λ v scope b h k off others. told_lacks k v scope first uses norm form new part (is_made v scope b h).0 off others;
      shows = λ t scope back h b made few sorted added.
          let w = is_made t.vocabulary (scope ++ back) b (wider t.vocabulary back scope uses norm b made) in
          let depth = depth_within_size norm in
          subst (λ c. Proves t (scope ++ back) h part (Imp norm c)) w.1 (implies t (scope ++ back) first uses norm form new part w.0 (omega arith) sorted added h);
    }

-- Lemmas on what specs/code/Leading defines.
use Rattle.std.specs.Prelude.{ℕ, ◌≡◌, ◌+◌, ◌≤◌, ◌<◌, Bool, true, false, List, ◌∷◌, length, Option, Some, None}
use Rattle.std.proofs.Common.{ap, subst, sym, ◌∙◌, arith}
use Rattle.fof_terms.specs.declared.form.Form.{Form, Imp}
use Rattle.fof_terms.specs.Sorts.{Sorted}
use Rattle.kernel.specs.Statements.{Statements}
use Rattle.kernel.specs.Proves.{Proves}
use Rattle.kernel.proofs.Building.{by_imp_i}
use Rattle.kernel.specs.declared.proof.Proof.{Proof, Hyp, ImpI}
use Rattle.derive_kit.proofs.Members.{first}
use Rattle.norm_proofs.specs.code.Steps.{Between}
use Rattle.norm_proofs.proofs.StepsFacts.{other_sorted, roomier, same_shows}
use Rattle.flat_proofs.specs.code.Leading.{Leads}

-- the second formula is well-sorted where the first is
pub leads_sorted : (forth : Bool) (n : ℕ) (part : Option Proof) (a b : Form) → Leads forth n part a b → (t : Statements) (v : List ℕ) → n + length v < 2147483647 → Sorted t.vocabulary v a → Sorted t.vocabulary v b
leads_sorted forth n None a b l t v room s = subst (λ (c : Form). Sorted t.vocabulary v c) l s
leads_sorted forth n (Some p) a b l t v room s = other_sorted forth n p a b l t v room s

-- what needs less room
pub leads_roomier : (forth : Bool) (n m : ℕ) (part : Option Proof) (a b : Form) → n ≤ m → Leads forth n part a b → Leads forth m part a b
leads_roomier forth n m None a b le l = l
leads_roomier forth n m (Some p) a b le l = roomier forth n m p a b le l

pub leads_some : (forth : Bool) (n : ℕ) (part : Option Proof) (p : Proof) (a b : Form) → part ≡ Some p → Leads forth n part a b → Between forth n p a b
leads_some forth n part p a b e l = subst (λ (o : Option Proof). Leads forth n o a b) e l

pub leads_none : (forth : Bool) (n : ℕ) (part : Option Proof) (a b : Form) → part ≡ None → Leads forth n part a b → a ≡ b
leads_none forth n part a b e l = subst (λ (o : Option Proof). Leads forth n o a b) e l

-- by itself
pub same_leads : (forth : Bool) (n : ℕ) (part : Option Proof) (made own : Proof) (a b : Form) → part ≡ None → made ≡ ImpI a own → own ≡ Hyp 0 → Leads forth n part a b → Between forth n made a b
same_leads forth n part made own a b e em eo l =
    let tree : made ≡ ImpI a (Hyp 0) = em ∙ ap (ImpI a) eo in
    subst (λ (c : Form). Between forth n made a c) (leads_none forth n part a b e l) (subst (λ (q : Proof). Between forth n q a a) (sym tree) (same_shows forth n a))

-- one after the other, as code makes it
pub without_first : (forth : Bool) (n : ℕ) (before after : Option Proof) (a b c : Form) → before ≡ None → Leads forth n before a b → Leads forth n after b c → Leads forth n after a c
without_first forth n before after a b c e l k = subst (λ (d : Form). Leads forth n after d c) (sym (leads_none forth n before a b e l)) k

pub without_last : (forth : Bool) (n : ℕ) (after : Option Proof) (p : Proof) (a b c : Form) → after ≡ None → Between forth n p a b → Leads forth n after b c → Between forth n p a c
without_last forth n after p a b c e l k = subst (λ (d : Form). Between forth n p a d) (leads_none forth n after b c e k) l

-- what an implication says of what a part shows
abbrev pub Applies : Proof → Proof → Proof → Type 0
Applies imp part made = (t : Statements) (v : List ℕ) (h : List Form) (a b : Form) → Proves t v h imp (Imp a b) → Proves t v h part a → Proves t v h made b

module _ (n : ℕ) (p q own found last made : Proof) (a b c : Form) (is : own ≡ Hyp 0) where
  pub chain_forth : (forth : Bool) → forth ≡ true → Applies p own found → Applies q found last → made ≡ ImpI a last → Between forth n p a b → Between forth n q b c → Between forth n made a c
  chain_forth true holds fa la em lp lq t v h room s =
      let sb = other_sorted true n p a b lp t v room s in
      let h1 = a ∷ h in
      let start : Proves t v h1 own a = rw is (first t v h a s) in
      rw em (by_imp_i t v h a c last s (la t v h1 b c (lq t v h1 room sb) (fa t v h1 a b (lp t v h1 room s) start)))
  chain_forth false holds fa la em lp lq t v h room s = absurd (let never : false ≡ true = holds in cc)

  pub chain_back : (forth : Bool) → forth ≡ false → Applies q own found → Applies p found last → made ≡ ImpI c last → Between forth n p a b → Between forth n q b c → Between forth n made a c
  chain_back true holds fa la em lp lq t v h room s = absurd (let never : true ≡ false = holds in cc)
  chain_back false holds fa la em lp lq t v h room s =
      let sb = other_sorted false n p a b lp t v room s in
      let sc = other_sorted false n q b c lq t v room sb in
      let h1 = c ∷ h in
      let start : Proves t v h1 own c = rw is (first t v h c sc) in
      rw em (by_imp_i t v h c a last sc (la t v h1 b a (lp t v h1 room s) (fa t v h1 c b (lq t v h1 room sb) start)))

-- The proofs between nodes, as code puts them together.
use Rattle.std.specs.Prelude.{ℕ, ◌≡◌, Bool, true, false, List, [], map, refl}
use Rattle.fof_terms.specs.declared.form.Form.{Form, Or}
use Rattle.clause_form.specs.ClauseView.{closed_by}
use Rattle.clause_form.specs.Norm.{node}
use Rattle.kernel.specs.declared.proof.Proof.{Proof, Hyp, AndI, OrE, ImpI, Raa}
use Rattle.norm_proofs.specs.Numbering.{general}
use Rattle.flat_form.specs.Flat.{Pulled, sorts_of, bodies_of}
use Rattle.flat_proofs.specs.code.Gathering.{and_arms, or_arms, back_arms, refuted, gather_tree}
use Rattle.flat_proofs.specs.code.Loose.{closed_of}
use Rattle.flat_proofs.specs.code.Moving.{link_arms, linked}
use Rattle.flat_proofs.specs.code.Nodes.{bodies_tree, closed_tree, links_tree}

module _ (bs : List Form) (ps : List Pulled) (arms : List Proof) (made : Proof) where
  pub bodies_and : (kind : Bool) → kind ≡ true → arms ≡ and_arms 0 ps → made ≡ AndI arms → made ≡ bodies_tree kind bs ps
  bodies_and kind holds ea em = rw (em, ea, holds) refl

  pub bodies_or : (kind : Bool) → kind ≡ false → (copied : List Form) (own : Proof) → arms ≡ or_arms bs 0 ps → own ≡ Hyp 0 → copied ≡ bs → made ≡ OrE (Or copied) own arms → made ≡ bodies_tree kind bs ps
  bodies_or kind fails copied own ea eo ec em = rw (em, ec, eo, ea, fails) refl

module _ (cs : List Form) (ps : List Pulled) (made : Proof) where
  pub closed_and : (kind : Bool) → kind ≡ true → (arms : List Proof) → arms ≡ back_arms [] 0 ps → made ≡ AndI arms → made ≡ closed_tree kind cs ps
  closed_and kind holds arms ea em = rw (em, ea, holds) refl

  pub closed_or : (kind : Bool) → kind ≡ false → (copied : List Form) (never : Proof) → never ≡ refuted cs 0 0 ps → copied ≡ cs → made ≡ Raa (Or copied) never → made ≡ closed_tree kind cs ps
  closed_or kind fails copied never en ec em = rw (em, ec, en, fails) refl

module _ (sorts : List ℕ) (bs cs : List Form) (ps : List Pulled) (es : sorts ≡ sorts_of ps) (eb : bs ≡ bodies_of 0 ps) (ec : cs ≡ map closed_of ps) where
  pub forth_is : (kind : Bool) (copied : List Form) (first : Form) (inner all made : Proof) → inner ≡ bodies_tree kind bs ps → all ≡ general sorts inner → copied ≡ cs → first ≡ node kind copied → made ≡ ImpI first all → made ≡ gather_tree kind true ps
  forth_is true copied first inner all made ei el ey ef em = rw (em, el, ei, ef, ey, es, ec) refl
  forth_is false copied first inner all made ei el ey ef em = rw (em, el, ei, ef, ey, es, ec, eb) refl

  pub back_is : (kind : Bool) (copied : List Form) (first body from whole : Form) (inner made : Proof) → inner ≡ closed_tree kind cs ps → copied ≡ bs → first ≡ node kind copied → body ≡ first → from ≡ closed_by sorts body → whole ≡ from
      → made ≡ ImpI whole inner → made ≡ gather_tree kind false ps
  back_is true copied first body from whole inner made ei ey ef ex er ew em = rw (em, ei, ew, er, ex, ef, ey, es, eb) refl
  back_is false copied first body from whole inner made ei ey ef ex er ew em = rw (em, ei, ew, er, ex, ef, ey, es, eb, ec) refl

module _ (to : List Form) (ps arms : List Proof) (made : Proof) where
  pub links_and : (kind : Bool) → kind ≡ true → arms ≡ link_arms kind to 0 ps → made ≡ AndI arms → made ≡ links_tree kind to ps
  links_and true holds ea em = rw (em, ea) refl
  links_and false holds ea em = absurd (let never : false ≡ true = holds in cc)

  pub links_or : (kind : Bool) → kind ≡ false → (copied : List Form) (own : Proof) → arms ≡ link_arms kind to 0 ps → own ≡ Hyp 0 → copied ≡ to → made ≡ OrE (Or copied) own arms → made ≡ links_tree kind to ps
  links_or true fails copied own ea eo ec em = absurd (let never : true ≡ false = fails in cc)
  links_or false fails copied own ea eo ec em = rw (em, ec, eo, ea) refl

pub linked_is : (from to : List Form) (ps : List Proof) (kind : Bool) (copied : List Form) (first : Form) (inner made : Proof) → inner ≡ links_tree kind to ps → copied ≡ from → first ≡ node kind copied → made ≡ ImpI first inner → made ≡ linked kind from to ps
linked_is from to ps true copied first inner made ei ey ef em = rw (em, ei, ef, ey) refl
linked_is from to ps false copied first inner made ei ey ef em = rw (em, ei, ef, ey) refl

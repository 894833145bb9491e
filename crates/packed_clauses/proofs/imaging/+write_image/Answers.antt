use Rattle.std.proofs.Common.{ℕ, List, ◌++◌, ◌∙◌, length, map, ap, refl, sym}
use Rattle.std.proofs.lemmas.Option.{slice_get_read, slice_get_past}
use Rattle.std.proofs.lemmas.Result.{on_ok_weaker}
use Rattle.clause_form.specs.Images.{image}
use Rattle.clause_form.proofs.ImagesFacts.{image-App}
use Rattle.packed_clauses.specs.Instances.{given}
use Rattle.packed_clauses.specs.code.Spelling.{spelled_term}
use Rattle.packed_clauses.proofs.Spelled.{app_written, spelled-Var}
use Rattle.packed_clauses.proofs.Imaged.{given_image, no_image}
use Rattle.packed_clauses.proofs.imaging.+write_image.Goals as goal

pub write_image-returns-in-Some : goal.write_image-returns-in-Some
write_image-returns-in-Some t c =
    on_ok_weaker c.write_term.result
    (λ e. e ∙ ap (λ u. c.args.bytes.now ++ spelled_term u) (given_image c.args.images.now c.args.term.now c.in-Var.variable c.in-Some.image.now c.in-Var.is (slice_get_read c.args.images.now (length c.args.images.now) c.in-Var.variable c.in-Some.image.now refl c.in-Some.ensures.lookup.3.0 c.in-Some.ensures.lookup.1)))
    c.write_term.ensures

pub write_image-returns-in-None : goal.write_image-returns-in-None
write_image-returns-in-None t c =
    on_ok_weaker c.write_piece.result
    (λ e. e ∙ ap (λ (xs : List ℕ). c.args.bytes.now ++ xs) (sym (spelled-Var c.in-Var.variable) ∙ ap spelled_term (sym c.in-Var.is ∙ no_image c.args.images.now c.args.term.now c.in-Var.variable c.in-Var.is (slice_get_past c.args.images.now c.in-Var.variable c.in-None.ensures.lookup.3))))
    c.write_piece.ensures

pub write_image-returns-in_ok-write_images-in-App : goal.write_image-returns-in_ok-write_images-in-App
write_image-returns-in_ok-write_images-in-App t c =
    let s = given c.args.images.now in
    on_ok_weaker c.write_piece-in-App-2.result
    (app_written (image s c.args.term.now) c.in-App.symbol (map (image s) c.in-App.args) (map (image s) c.as_slice.result.now) c.args.bytes.now c.write_piece-in-App.new.bytes c.write_images.new.bytes c.write_piece-in-App-2.new.bytes
    (ap (image s) c.in-App.is ∙ image-App s c.in-App.symbol c.in-App.args) (ap (map (image s)) c.as_slice.ensures) c.in_ok-write_piece-in-App.ensures c.in_ok-write_images-in-App.ensures)
    c.write_piece-in-App-2.ensures

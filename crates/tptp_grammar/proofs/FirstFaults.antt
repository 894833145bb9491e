-- What the reader of all tokens answers comes with a derivation, or with a way to go on from before the fault.
use Rattle.std.proofs.Common.{◌≡◌, Bool, true, false, if◌then◌else◌, ℕ, zero, suc, ◌≤◌, ◌<◌, List, [], ◌∷◌, ◌++◌, length, Ok, Err, refl, sym, ◌∙◌, ap, subst, append_assoc, append-nil, length-append, arith}
use Rattle.first_fault.specs.Nesting.{plain, Within}
use Rattle.first_fault.specs.code.Reading.{Cause, Unexpected, TooDeep, Outcome, next}
use Rattle.first_fault.proofs.Exact.{Exact, Over, within-append, plain-append, by_next}
use Rattle.tptp_lexer.specs.declared.style.Style.{Style}
use Rattle.tptp_lexer.specs.declared.token.Token.{Token}
use Rattle.tptp_lexer.specs.declared.token.Token.TheVariants.{Comment}
use Rattle.tptp_base.specs.declared.place.Place.{Place}
use Rattle.tptp_base.specs.declared.item.Item.{Item}
use Rattle.tptp_base.specs.declared.item.Item.TheVariants as it
use Rattle.tptp_grammar.specs.Tokens.{Text, Tokens}
use Rattle.tptp_grammar.specs.Items as g
use Rattle.tptp_grammar.specs.Items.{IsItem}
use Rattle.tptp_grammar.specs.Solid.{Placed, is_remark, solid}
use Rattle.tptp_lexer.specs.Dots.{is_comment}
use Rattle.tptp_grammar.specs.Files.{IsFile, end_of_file, comment, input, SpellsWithin}
use Rattle.tptp_grammar.specs.code.ReadItems.{item}
use Rattle.tptp_grammar.specs.code.ReadFile.{FileOutcome, with_item, file}
use Rattle.tptp_grammar.proofs.Solids.{BeginsSolid}
use Rattle.tptp_grammar.proofs.SolidItems.{AreSolid, of_item, solid_to}
use Rattle.tptp_grammar.proofs.ExactItems.{good_item}
use Rattle.tptp_grammar.proofs.ExactFile.{Ends, comment_text, solid_kept, solid_ends, through_of, item_read, item_fails, started_comment}
use Rattle.tptp_grammar.proofs.AmongComments.{Passed, Second, Taken, Whole, holds_both, holds_placed, passed, placed, second_of, solid_holds, taken, whole_of}

-- ---- what an outcome says

-- the fault's token is over the limit in the text that goes on from there
pub record DeepHere (room : ℕ) (rest more : List Placed) (later : Tokens) : Type 0 where
  pub token : Token
  pub place : Place
  pub level : ℕ
  pub others : List Placed
  pub others_more : List Placed
  pub others_later : Tokens
  pub rest_is : rest ≡ (token, place) ∷ others
  pub more_is : more ≡ (token, place) ∷ others_more
  pub later_is : later ≡ (token, level) ∷ others_later
  pub deep : room < level

abbrev pub FileOver : Cause → ℕ → List Placed → List Placed → Tokens → Type 0
FileOver Unexpected room rest more later = Unit {0}
FileOver TooDeep room rest more later = DeepHere room rest more later

pub record FileFault (style : Style) (room : ℕ) (raw : List Placed) (cause : Cause) (left : List Token) : Type 0 where
  pub front : List Placed
  pub rest : List Placed
  pub text : raw ≡ front ++ rest
  pub begins : BeginsSolid rest
  pub left_is : solid rest ≡ left
  pub seen : Tokens
  pub same : plain seen ≡ solid front
  pub within : Within room seen
  pub items : List Item
  pub more : List Placed
  pub later : Tokens
  pub spells : IsFile style items (front ++ more) (seen ++ later)
  pub over : FileOver cause room rest more later
  pub again : (other : List Placed) → next other ≡ next rest → file style room (front ++ other) ≡ Err (cause, solid other)

abbrev pub FileSays : Style → ℕ → List Placed → FileOutcome → Type 0
FileSays style room raw (Ok items) = SpellsWithin style room items raw
FileSays style room raw (Err f) = FileFault style room raw f.0 f.1

next_at : (b : Bool) (c : Placed) (us vs : List Token) → next us ≡ next vs → next (if b then us else c.0 ∷ us) ≡ next (if b then vs else c.0 ∷ vs)
next_at true c us vs e = e
next_at false c us vs e = refl

next_solid : (front other rest : List Placed) → BeginsSolid rest → next other ≡ next rest → next (solid (front ++ other)) ≡ next (solid (front ++ rest))
next_solid [] [] [] h e = refl
next_solid [] (a ∷ other) [] h e = cc
next_solid [] [] (b ∷ rest) h e = cc
next_solid [] (a ∷ other) (b ∷ rest) h e =
    let same : a ≡ b = cc in
    let first : solid (b ∷ other) ≡ b.0 ∷ solid other = ap (λ k. if k then solid other else b.0 ∷ solid other) h in
    let second : solid (b ∷ rest) ≡ b.0 ∷ solid rest = ap (λ k. if k then solid rest else b.0 ∷ solid rest) h in
    ap (λ c. next (solid (c ∷ other))) same ∙ ap next first ∙ sym (ap next second)
next_solid (c ∷ front) other rest h e = next_at (is_remark c) c (solid (front ++ other)) (solid (front ++ rest)) (next_solid front other rest h e)

-- ---- a comment, and what follows it

module _ (style : Style) (room : ℕ) (text : Text) (place : Place) (rest : List Placed) where
  after_comment : (o : FileOutcome) → FileSays style room rest o → FileSays style room ((Comment text, place) ∷ rest) (with_item (it.Comment text) o)
  after_comment (Ok items) h = (h.0, comment h.1, h.2)
  after_comment (Err f) h = record {
    front = (Comment text, place) ∷ h.front;
    rest = h.rest;
    text = ap (λ l. (Comment text, place) ∷ l) h.text;
    begins = h.begins;
    left_is = h.left_is;
    seen = h.seen;
    same = h.same;
    within = h.within;
    items = it.Comment text ∷ h.items;
    more = h.more;
    later = h.later;
    spells = comment h.spells;
    over = h.over;
    again = λ other e. started_comment style room text place (h.front ++ other) ∙ ap (with_item (it.Comment text)) (h.again other e);
  }

-- ---- an item, and what follows it

pub some_item : {style : Style} {place : Place} {i : Item} {ts rest : Tokens} → IsItem style place i ts rest → ts ≡ [] → ⊥
some_item (g.annotated e has h j k x) is = cc
some_item (g.include e h) is = cc

module _ (style : Style) (room : ℕ) (t : Token) (place : Place) (kept : is_comment t ≡ false) (n : ℕ) (us : Tokens) (i : Item) (fits : Within room ((t, n) ∷ us)) (spells : (after : Tokens) → IsItem style place i ((t, n) ∷ (us ++ after)) after) (left : List Token)
    (again : (other : List Token) → next other ≡ next left → item style room place (t ∷ (plain us ++ other)) ≡ Ok (i, other)) where
  module _ (fr rest : List Placed) (ends : Ends fr us) (left_is : solid rest ≡ left) where
    read_step : (x : List Placed) → next (solid x) ≡ next left → file style room ((t, place) ∷ (fr ++ x)) ≡ with_item i (file style room x)
    read_step x e = item_read style room t place fr x us i kept ends (ap (λ l. item style room place (t ∷ l)) (solid_ends ends x) ∙ again (solid x) e)

    add_item : (o : FileOutcome) → FileSays style room rest o → FileSays style room ((t, place) ∷ (fr ++ rest)) (with_item i o)
    add_item (Ok items) h = ((t, n) ∷ (us ++ h.0), input (spells h.0) (through_of ends rest h.0) h.1, (fits.0, within-append room us h.0 fits.1 h.2))
    add_item (Err f) h = record {
      front = (t, place) ∷ (fr ++ h.front);
      rest = h.rest;
      text = ap (λ l. (t, place) ∷ l) (ap (λ l. fr ++ l) h.text ∙ sym (append_assoc fr h.front h.rest));
      begins = h.begins;
      left_is = h.left_is;
      seen = (t, n) ∷ (us ++ h.seen);
      same = ap (λ l. t ∷ l) (plain-append us h.seen ∙ ap (λ l. plain us ++ l) h.same ∙ sym (solid_ends ends h.front)) ∙ sym (solid_kept t place (fr ++ h.front) kept);
      within = (fits.0, within-append room us h.seen fits.1 h.within);
      items = i ∷ h.items;
      more = h.more;
      later = h.later;
      spells = subst (λ l. IsFile style (i ∷ h.items) ((t, place) ∷ l) ((t, n) ∷ ((us ++ h.seen) ++ h.later))) (sym (append_assoc fr h.front h.more))
          (subst (λ l. IsFile style (i ∷ h.items) ((t, place) ∷ (fr ++ (h.front ++ h.more))) ((t, n) ∷ l)) (sym (append_assoc us h.seen h.later)) (input (spells (h.seen ++ h.later)) (through_of ends (h.front ++ h.more) (h.seen ++ h.later)) h.spells));
      over = h.over;
      again = λ other e.
          ap (λ l. file style room ((t, place) ∷ l)) (append_assoc fr h.front other)
          ∙ read_step (h.front ++ other) (next_solid h.front other h.rest h.begins e ∙ ap (λ l. next (solid l)) (sym h.text) ∙ ap next left_is)
          ∙ ap (with_item i) (h.again other e);
    }

  nonempty : Second us
  nonempty = let s = second_of (spells []) (t, n) (us ++ []) refl in record { head = s.head; more = s.more; is = sym (append-nil us) ∙ s.is }

  taken_us : (raw : List Placed) → solid raw ≡ plain us ++ left → Taken raw us left
  taken_us raw e = let s = nonempty in subst (λ l. Taken raw l left) (sym s.is) (taken left raw s.head s.more (e ∙ ap (λ l. plain l ++ left) s.is))

  after_item : (raw : List Placed) → solid raw ≡ plain us ++ left → ((x : List Placed) → length x ≤ length raw → FileSays style room x (file style room x)) → FileSays style room ((t, place) ∷ raw) (file style room ((t, place) ∷ raw))
  after_item raw e ih =
      let k = taken_us raw e in
      let shorter : length k.rest ≤ length raw = omega (arith, ap length k.text, length-append k.fr k.rest) in
      let whole : FileSays style room ((t, place) ∷ (k.fr ++ k.rest)) (file style room ((t, place) ∷ (k.fr ++ k.rest))) =
      subst (FileSays style room ((t, place) ∷ (k.fr ++ k.rest))) (sym (read_step k.fr k.rest k.ends k.left_is k.rest (ap next k.left_is))) (add_item k.fr k.rest k.ends k.left_is (file style room k.rest) (ih k.rest shorter)) in
      subst (λ l. FileSays style room ((t, place) ∷ l) (file style room ((t, place) ∷ l))) (sym k.text) whole

-- ---- a fault in an item

place_or : Place → List Placed → Place
place_or place [] = place
place_or place (entry ∷ rest) = entry.1

rest_head : (place : Place) (rest : List Placed) (u : Token) (others : List Token) → BeginsSolid rest → solid rest ≡ u ∷ others → (more : List Placed) × (rest ≡ (u, place_or place rest) ∷ more)
unfolding place_or
rest_head place [] u others h e = cc
rest_head place (entry ∷ rest) u others h e =
    let both : entry.0 ∷ solid rest ≡ u ∷ others = sym (solid_kept entry.0 entry.1 rest h) ∙ e in
    let same : entry.0 ≡ u = cc in
    (rest, ap (λ v. (v, entry.1) ∷ rest) same)

solid_behind : (us vs : Tokens) → AreSolid (us ++ vs) → AreSolid vs
solid_behind [] vs h = h
solid_behind (u ∷ us) vs h = solid_behind us vs h.1

whole_placed : (style : Style) (place : Place) (i : Item) (vs : Tokens) → IsItem style place i vs [] → Whole style (placed place vs) vs
unfolding placed
whole_placed style place i [] h = absurd (some_item h refl)
whole_placed style place i (v ∷ vs) h = whole_of style place i v.0 v.1 (placed place vs) vs h (holds_placed place vs (solid_to (of_item h) tt))

module _ (style : Style) (room : ℕ) (t : Token) (place : Place) (kept : is_comment t ≡ false) (raw : List Placed) (cause : Cause) (left : List Token) (value : Item) (on : Tokens → Tokens) where
  over_here : (left ≡ t ∷ solid raw) → (c : Cause) → Over c room left on → FileOver c room ((t, place) ∷ raw) (placed place (on [])) (on [])
  unfolding placed
  over_here is Unexpected h = tt
  over_here is TooDeep h =
      let both : t ∷ solid raw ≡ h.token ∷ h.others = sym is ∙ h.is in
      let same : t ≡ h.token = cc in record {
        token = h.token;
        place = place;
        level = h.level;
        others = raw;
        others_more = placed place (h.later []);
        others_later = h.later [];
        rest_is = ap (λ u. (u, place) ∷ raw) same;
        more_is = ap (placed place) (h.begins []);
        later_is = h.begins [];
        deep = h.deep;
      }

  fault_here : left ≡ t ∷ solid raw → ((after : Tokens) → IsItem style place value (on after) after) → Over cause room left on → ((other : List Token) → next other ≡ next left → item style room place other ≡ Err (cause, other)) → FileFault style room ((t, place) ∷ raw) cause left
  fault_here is spells over again =
      let w = whole_placed style place value (on []) (spells []) in record {
        front = [];
        rest = (t, place) ∷ raw;
        text = refl;
        begins = kept;
        left_is = solid_kept t place raw kept ∙ sym is;
        seen = [];
        same = refl;
        within = tt;
        items = w.items;
        more = placed place (on []);
        later = on [];
        spells = w.spells;
        over = over_here is cause over;
        again = λ other e. by_next (t, place) (λ o. file style room o ≡ Err (cause, solid o)) (λ o.
            item_fails style room t place o (cause, t ∷ solid o) kept (again (t ∷ solid o) (ap next (sym is))) ∙ ap (λ l. Err (cause, l)) (sym (solid_kept t place o kept))) other e;
      }

  module _ (n : ℕ) (us : Tokens) (fits : Within room ((t, n) ∷ us)) (others : solid raw ≡ plain us ++ left) where
    over_behind : (p : Passed raw us left) (c : Cause) → Over c room left on → FileOver c room p.rest (placed (place_or place p.rest) (on [])) (on [])
    unfolding placed
    over_behind p Unexpected h = tt
    over_behind p TooDeep h =
        let r = rest_head place p.rest h.token h.others p.begins (p.left_is ∙ h.is) in record {
          token = h.token;
          place = place_or place p.rest;
          level = h.level;
          others = r.0;
          others_more = placed (place_or place p.rest) (h.later []);
          others_later = h.later [];
          rest_is = r.1;
          more_is = ap (placed (place_or place p.rest)) (h.begins []);
          later_is = h.begins [];
          deep = h.deep;
        }

    fault_behind : ((after : Tokens) → IsItem style place value ((t, n) ∷ (us ++ on after)) after) → Over cause room left on → ((other : List Token) → next other ≡ next left → item style room place (t ∷ (plain us ++ other)) ≡ Err (cause, other))
        → FileFault style room ((t, place) ∷ raw) cause left
    fault_behind spells over again =
        let p = passed left raw us others in
        let q = place_or place p.rest in
        let solid_on : AreSolid (on []) = solid_behind us (on []) (solid_to (of_item (spells [])) tt) in
        let w = whole_of style place value t n (p.fr ++ placed q (on [])) (us ++ on []) (spells []) (holds_both p.holds (holds_placed q (on []) solid_on)) in record {
          front = (t, place) ∷ p.fr;
          rest = p.rest;
          text = ap (λ l. (t, place) ∷ l) p.text;
          begins = p.begins;
          left_is = p.left_is;
          seen = (t, n) ∷ us;
          same = ap (λ l. t ∷ l) (sym (append-nil (plain us)) ∙ sym (solid_holds p.holds []) ∙ ap solid (append-nil p.fr)) ∙ sym (solid_kept t place p.fr kept);
          within = fits;
          items = w.items;
          more = placed q (on []);
          later = on [];
          spells = w.spells;
          over = over_behind p cause over;
          again = λ other e.
              item_fails style room t place (p.fr ++ other) (cause, solid other) kept
              (ap (λ l. item style room place (t ∷ l)) (solid_holds p.holds other) ∙ again (solid other) (next_solid [] other p.rest p.begins e ∙ ap next p.left_is));
        }

-- ---- the whole

module _ (style : Style) (room : ℕ) (t : Token) (place : Place) (kept : is_comment t ≡ false) (raw : List Placed) where
  read_front : (i : Item) (left : List Token) (front : Tokens) → Within room front → t ∷ solid raw ≡ plain front ++ left → ((after : Tokens) → IsItem style place i (front ++ after) after)
      → ((other : List Token) → next other ≡ next left → item style room place (plain front ++ other) ≡ Ok (i, other)) → ((x : List Placed) → length x ≤ length raw → FileSays style room x (file style room x)) → FileSays style room ((t, place) ∷ raw) (file style room ((t, place) ∷ raw))
  read_front i left [] fits text spells again ih = absurd (some_item (spells []) refl)
  read_front i left (u ∷ us) fits text spells again ih =
      let same : u.0 ≡ t = cc in
      let others : solid raw ≡ plain us ++ left = cc in
      after_item style room t place kept u.1 us i fits (λ after. subst (λ v. IsItem style place i ((v, u.1) ∷ (us ++ after)) after) same (spells after)) left (λ other e. subst (λ v. item style room place (v ∷ (plain us ++ other)) ≡ Ok (i, other)) same (again other e)) raw others ih

  fault_front : (cause : Cause) (left : List Token) (value : Item) (on : Tokens → Tokens) (front : Tokens) → Within room front → t ∷ solid raw ≡ plain front ++ left → ((after : Tokens) → IsItem style place value (front ++ on after) after) → Over cause room left on
      → ((other : List Token) → next other ≡ next left → item style room place (plain front ++ other) ≡ Err (cause, other)) → FileFault style room ((t, place) ∷ raw) cause left
  fault_front cause left value on [] fits text spells over again = fault_here style room t place kept raw cause left value on (sym text) spells over again
  fault_front cause left value on (u ∷ us) fits text spells over again =
      let same : u.0 ≡ t = cc in
      let others : solid raw ≡ plain us ++ left = cc in
      fault_behind style room t place kept raw cause left value on u.1 us fits others (λ after. subst (λ v. IsItem style place value ((v, u.1) ∷ (us ++ on after)) after) same (spells after)) over
      (λ other e. subst (λ v. item style room place (v ∷ (plain us ++ other)) ≡ Err (cause, other)) same (again other e))

  by_item : (o : Outcome Token Item) → item style room place (t ∷ solid raw) ≡ o → Exact (item style room place) (IsItem style place) room (t ∷ solid raw) o → ((x : List Placed) → length x ≤ length raw → FileSays style room x (file style room x)) → FileSays style room ((t, place) ∷ raw) (file style room ((t, place) ∷ raw))
  by_item (Ok r) e h ih = read_front r.0 r.1 h.front h.within h.text h.spells h.again ih
  by_item (Err f) e h ih = subst (FileSays style room ((t, place) ∷ raw)) (sym (item_fails style room t place raw f kept e)) (fault_front f.0 f.1 h.value h.on h.front h.within h.text h.spells h.over h.again)

module _ (style : Style) (room : ℕ) where
  by_kind : (b : Bool) (t : Token) (place : Place) (raw : List Placed) → is_comment t ≡ b → ((x : List Placed) → length x ≤ length raw → FileSays style room x (file style room x)) → FileSays style room ((t, place) ∷ raw) (file style room ((t, place) ∷ raw))
  by_kind true t place raw e ih =
      let c = comment_text t e in
      let here : FileSays style room ((Comment c.0, place) ∷ raw) (file style room ((Comment c.0, place) ∷ raw)) =
      subst (FileSays style room ((Comment c.0, place) ∷ raw)) (sym (started_comment style room c.0 place raw)) (after_comment style room c.0 place raw (file style room raw) (ih raw (omega arith))) in
      subst (λ u. FileSays style room ((u, place) ∷ raw) (file style room ((u, place) ∷ raw))) (sym c.1) here
  by_kind false t place raw e ih = by_item style room t place e raw (item style room place (t ∷ solid raw)) refl ((good_item style room room (omega arith) place).exact (t ∷ solid raw)) ih

  by_length : (n : ℕ) (raw : List Placed) → length raw < n → FileSays style room raw (file style room raw)
  unfolding file
  by_length zero raw lt = absurd (omega arith)
  by_length (suc n) [] lt = ([], end_of_file, tt)
  by_length (suc n) (entry ∷ raw) lt = by_kind (is_comment entry.0) entry.0 entry.1 raw refl (λ x le. by_length n x (omega arith))

  pub file_says : (raw : List Placed) → FileSays style room raw (file style room raw)
  file_says raw = by_length (suc (length raw)) raw (omega arith)

-- An add and a whole change are read exactly: each field in turn, and what has been read is the value's own.
-- Assumes nothing.
use Rattle.std.proofs.Common.{◌≡◌, ℕ, suc, ◌≤◌, true, ◌&&◌, eqb, leb, List, [], ◌∷◌, ◌++◌, length, sym, refl, ap, ◌∙◌, append-nil, lit≤, eqb-true, le-leb, leb-true}
use Rattle.std.specs.List.{list_all}
use Rattle.change.specs.Bytes.{number_bytes, counted, text_bytes, add_bytes, change_kind, change_bytes}
use Rattle.change.specs.Model.{Add, Change}
use Rattle.change.specs.Reading.{Read, next, number_within, rising_of, add_of, adds_of, body_of, change_of}
use Rattle.change.specs.WellFormed.{rising, is_byte, is_line, is_name, is_text, is_add, are_needs, are_adds, are_kills, well_formed, lowest_name, highest_name, highest_line}
use Rattle.change.proofs.Exact.{Exact, exact_by, next_exact, done_exact, only_exact}
use Rattle.change.proofs.Parts.{byte_exact, number_exact, within_exact, chained, counted_exact, text_exact}
use Rattle.change.proofs.Tests.{and_true, both_true}

-- One field more is read: that it is the value's own has been used, and what it must be comes to what the fields behind it must be.
field_exact : {X Y : Type 0} {p : List ℕ → Read X} {w : X → List ℕ} {P : X → Type 0} (field : Y → X) {k : X → List ℕ → Read Y} {v : Y → List ℕ} (E F D : Y → Type 0) →
    Exact p w P → ((x : X) → Exact (k x) v (λ y. (field y ≡ x) × ((E y × F y) × D y))) →
    Exact (λ bytes. next (p bytes) k) (λ y. w (field y) ++ v y) (λ y. E y × (F y × (P (field y) × D y)))
field_exact field E F D first second =
    exact_by _ _ (next_exact field _ _ (λ y. (E y × F y) × D y) first (λ x _. second x)) (λ y. refl) (λ y h. (h.1.0.0, (h.1.0.1, (h.0, h.1.1)))) (λ y h. (h.1.1.0, ((h.0, h.1.0), h.1.1.1)))

abbrev None : {Y : Type 0} → Y → Type 0
None y = Unit {0}

pub add_exact : Exact add_of add_bytes (λ x. is_add x ≡ true)
add_exact =
    exact_by add_bytes (λ x. is_add x ≡ true)
    (field_exact (λ x. x.after) None None (λ x. (x.before ≤ highest_line) × ((is_text x.text ≡ true) × None x)) number_exact (λ a.
    field_exact (λ x. x.before) (λ x. x.after ≡ a) (λ x. None x × None x) (λ x. (is_text x.text ≡ true) × None x) number_exact (λ b.
    field_exact (λ x. x.text) (λ x. x.before ≡ b) (λ x. (x.after ≡ a) × (None x × None x)) None text_exact (λ t.
    exact_by (λ x. []) (λ x. (x.text ≡ t) × (((x.before ≡ b) × ((x.after ≡ a) × (None x × None x))) × None x))
    (done_exact (record { after = a; before = b; text = t }))
    (λ x. refl)
    (λ x e. (ap (λ y. y.text) e, ((ap (λ y. y.before) e, (ap (λ y. y.after) e, (tt, tt))), tt)))
    (λ x e. λ i. record { after = e.1.0.1.0 i; before = e.1.0.0 i; text = e.0 i })))))
    (λ x. ap (λ l. number_bytes x.after ++ (number_bytes x.before ++ l)) (append-nil (text_bytes x.text)))
    (λ x h. both_true (le-leb x.after highest_line h.1.1.0) (both_true (le-leb x.before highest_line h.1.1.1.0) h.1.1.1.1.0))
    (λ x h.
    let p = and_true (is_line x.after) _ h in let q = and_true (is_line x.before) _ p.1 in
    (tt, (tt, (leb-true x.after highest_line p.0, (leb-true x.before highest_line q.0, (q.1, tt))))))

pub rising_is_chained : (low high : ℕ) (ns : List ℕ) → rising low high ns ≡ chained (λ l n. leb l n && leb n high) suc low ns
rising_is_chained low high [] = refl
rising_is_chained low high (n ∷ ns) = ap (λ b. (leb low n && leb n high) && b) (rising_is_chained (suc n) high ns)

every_is_chained : (adds : List Add) → list_all is_add adds ≡ chained (λ _. is_add) (λ _. 0) 0 adds
every_is_chained [] = refl
every_is_chained (a ∷ adds) = ap (λ b. is_add a && b) (every_is_chained adds)

rising_exact : (limit low high : ℕ) → limit ≤ 255 → high ≤ highest_line → Exact (rising_of limit low high) (counted number_bytes) (λ ns. leb (length ns) limit && rising low high ns ≡ true)
rising_exact limit low high few fits =
    exact_by _ _ (counted_exact (number_within high) number_bytes (λ l n. leb l n && leb n high) suc (λ l. within_exact high l fits) limit low few)
    (λ ns. refl) (λ ns h. both_true h.0 (rising_is_chained low high ns ∙ h.1))
    (λ ns h. let t = and_true (leb (length ns) limit) _ h in (t.0, sym (rising_is_chained low high ns) ∙ t.1))

adds_exact : Exact adds_of (counted add_bytes) (λ adds. are_adds adds ≡ true)
adds_exact =
    exact_by _ _ (counted_exact (λ _. add_of) add_bytes (λ _. is_add) (λ _. 0) (λ _. add_exact) 64 0 (lit≤ tt))
    (λ adds. refl) (λ adds h. both_true h.0 (every_is_chained adds ∙ h.1))
    (λ adds h. let t = and_true (leb (length adds) 64) _ h in (t.0, sym (every_is_chained adds) ∙ t.1))

abbrev Body : Change → List ℕ
Body c = number_bytes c.name ++ (c.sheet ∷ (counted number_bytes c.needs ++ (counted add_bytes c.adds ++ counted number_bytes c.kills)))

body_exact : Exact body_of Body (λ c. well_formed c ≡ true)
body_exact =
    exact_by Body (λ c. well_formed c ≡ true)
    (field_exact (λ c. c.name) None None (λ c. (is_byte c.sheet ≡ true) × ((are_needs c.needs ≡ true) × ((are_adds c.adds ≡ true) × ((are_kills c.kills ≡ true) × None c)))) (within_exact highest_name lowest_name (lit≤ tt)) (λ n.
    field_exact (λ c. c.sheet) (λ c. c.name ≡ n) (λ c. None c × None c) (λ c. (are_needs c.needs ≡ true) × ((are_adds c.adds ≡ true) × ((are_kills c.kills ≡ true) × None c))) byte_exact (λ s.
    field_exact (λ c. c.needs) (λ c. c.sheet ≡ s) (λ c. (c.name ≡ n) × (None c × None c)) (λ c. (are_adds c.adds ≡ true) × ((are_kills c.kills ≡ true) × None c)) (rising_exact 32 lowest_name highest_name (lit≤ tt) (lit≤ tt)) (λ ns.
    field_exact (λ c. c.adds) (λ c. c.needs ≡ ns) (λ c. (c.sheet ≡ s) × ((c.name ≡ n) × (None c × None c))) (λ c. (are_kills c.kills ≡ true) × None c) adds_exact (λ adds.
    field_exact (λ c. c.kills) (λ c. c.adds ≡ adds) (λ c. (c.needs ≡ ns) × ((c.sheet ≡ s) × ((c.name ≡ n) × (None c × None c)))) None (rising_exact 64 0 highest_line (lit≤ tt) (lit≤ tt)) (λ ks.
    exact_by (λ c. []) (λ c. (c.kills ≡ ks) × (((c.adds ≡ adds) × ((c.needs ≡ ns) × ((c.sheet ≡ s) × ((c.name ≡ n) × (None c × None c))))) × None c))
    (done_exact (record { name = n; sheet = s; needs = ns; adds = adds; kills = ks }))
    (λ c. refl)
    (λ c e. (ap (λ d. d.kills) e, ((ap (λ d. d.adds) e, (ap (λ d. d.needs) e, (ap (λ d. d.sheet) e, (ap (λ d. d.name) e, (tt, tt))))), tt)))
    (λ c e. λ i. record { name = e.1.0.1.1.1.0 i; sheet = e.1.0.1.1.0 i; needs = e.1.0.1.0 i; adds = e.1.0.0 i; kills = e.0 i })))))))
    (λ c. ap (λ l. number_bytes c.name ++ (c.sheet ∷ (counted number_bytes c.needs ++ (counted add_bytes c.adds ++ l)))) (append-nil (counted number_bytes c.kills)))
    (λ c h. both_true h.1.1.0 (both_true h.1.1.1.0 (both_true h.1.1.1.1.0 (both_true h.1.1.1.1.1.0 h.1.1.1.1.1.1.0))))
    (λ c h.
    let a = and_true (is_name c.name) _ h in let b = and_true (is_byte c.sheet) _ a.1 in
    let d = and_true (are_needs c.needs) _ b.1 in let e = and_true (are_adds c.adds) _ d.1 in
    (tt, (tt, (a.0, (b.0, (d.0, (e.0, (e.1, tt))))))))

pub change_exact : Exact change_of change_bytes (λ c. well_formed c ≡ true)
change_exact =
    exact_by _ _ (next_exact (λ _. change_kind) (λ _. body_of) Body (λ c. well_formed c ≡ true) (only_exact (eqb change_kind) byte_exact) (λ k h.
    exact_by _ _ body_exact (λ c. refl) (λ c w. (eqb-true change_kind k h.1, w)) (λ c w. w.1)))
    (λ c. refl) (λ c h. h.1) (λ c h. ((refl, refl), h))

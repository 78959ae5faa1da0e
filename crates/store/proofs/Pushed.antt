-- One change more behind those that lie in the area.
-- Assumes nothing.
use Rattle.std.proofs.Common.{◌≡◌, ℕ, ◌+◌, ◌-◌, ◌≤◌, true, List, [], ◌∷◌, ◌++◌, length, refl, sym, ap, ◌∙◌, append-nil, arith, length-append, length-drop, length-take-le, take, drop}
use borrow.Rule.Slice.PartMut.{put_mid, post_of}
use Rattle.std.specs.List.{flat_map}
use Rattle.std.proofs.lemmas.Slice.{take-put_mid}
use Rattle.change.specs.Bytes.{change_bytes}
use Rattle.change.specs.Model.{Change}
use Rattle.change.specs.WellFormed.{well_formed}
use Rattle.change.proofs.Every.{every_push}
use Rattle.change.specs.declared.view.ChangeView.{ChangeView}
use Rattle.change.specs.Viewed.{viewed}
use Rattle.store.specs.declared.Store.{Store}
use Rattle.store.specs.declared.entry.Entry.{Entry}
use Rattle.store.specs.Entries.{entry_of}
use Rattle.store.specs.Kept.{entries_of, kept}
use Rattle.store.specs.Laid.{Laid}
use Rattle.store.proofs.Entries.{entries_append}
use Rattle.store.proofs.Joined.{joined_append}
use Rattle.store.proofs.Laid.{whole_is_laid}

module _ {area : List ℕ} {used : ℕ} {entries : List Entry} {cs : List Change} (laid : Laid area used entries cs) where
  pub laid_push : (c : Change) (written area' : List ℕ) (used' : ℕ) (entries' : List Entry) →
      well_formed c ≡ true → written ≡ change_bytes c → used' ≡ used + length written → used' ≤ length area' →
      take used' area' ≡ take used area ++ written → entries' ≡ entries ++ entry_of used c ∷ [] →
      Laid area' used' entries' (cs ++ c ∷ [])
  laid_push c written area' used' entries' formed own ends fits behind added =
      let used_is : used ≡ 0 + length (flat_map change_bytes cs) = omega (arith, sym (length-take-le used area laid.inside) ∙ ap length laid.bytes) in
      record {
        inside = fits;
        formed = every_push well_formed cs c laid.formed formed;
        bytes =
            behind
            ∙ (λ i. laid.bytes i ++ own i)
            ∙ sym (joined_append change_bytes cs (c ∷ []) ∙ ap (λ l. flat_map change_bytes cs ++ l) (append-nil (change_bytes c)));
        marked = added ∙ (λ i. laid.marked i ++ entry_of (used_is i) c ∷ []) ∙ sym (entries_append 0 cs (c ∷ []));
      }

-- the change of a view, its bytes written behind those in use
pub laid_behind : (s : Store) (v : ChangeView) (written copied : List ℕ) (entries : List Entry) → written ≡ change_bytes (viewed v) → copied ≡ written → s.used + length written ≤ length s.area.now →
    entries ≡ entries_of s ++ entry_of s.used (viewed v) ∷ [] →
    Laid (put_mid s.used (s.used + length written - s.used) s.area.now copied) (s.used + length written) entries (kept s ++ viewed v ∷ [])
laid_behind s v written copied entries own same fits added =
    let n = length written in
    let post = post_of s.used (s.used + n - s.used) s.area.now in
    let size : length copied ≡ s.used + n - s.used = omega (arith, ap length same) in
    let long : length (put_mid s.used (s.used + n - s.used) s.area.now copied) ≡ length s.area.now = omega (arith, length-append (take s.used s.area.now) (copied ++ post), length-append copied post, length-take-le s.used s.area.now s.inside, length-drop (s.used + n - s.used) (drop s.used s.area.now), length-drop s.used s.area.now) in
    laid_push (whole_is_laid s) (viewed v) written _ (s.used + n) entries v.well own refl (omega (arith, long))
    (take-put_mid s.used (s.used + n - s.used) s.area.now copied (s.used + n) (ap (λ l. s.used + length l) (sym same)) (omega arith) ∙ ap (λ l. take s.used s.area.now ++ l) same)
    added

use Rattle.std.proofs.Common.{◌≡◌, List, ℕ, ◌++◌, OnOk, Ok, Err, Result}
use Rattle.display.specs.declared.listing.Listing.{Listing}
use Rattle.answers.specs.Lines.{listing_lines}
use Rattle.desk.proofs.asking.lines.Goals as goal

-- what was listed, beside what was written of it
with_listing : {E : Type 0} (r : Result (Unit {0}) E) (Told : Listing → Type 0) (all : Listing) (before after : List ℕ) → Told all →
    OnOk r (after ≡ before ++ listing_lines all) → OnOk r ((g : Listing) × Told g × (after ≡ before ++ listing_lines g))
with_listing (Ok done) Told all before after told written = (all, told, written)
with_listing (Err e) Told all before after told written = tt

pub listing-requires : goal.listing-requires
listing-requires c k d less = (c.in_ok-all.ensures.each k d less).inside

pub returns : goal.returns
returns c = with_listing c.listing.result _ c.in_ok-all.all _ _ c.in_ok-all.ensures c.listing.ensures

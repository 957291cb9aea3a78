-- What keeps the sections of a bin sound, and what a bin accepts.
use Rattle.rectangle_pack_sections.proofs.Std.{◌≡◌, ℕ, suc, ◌<◌, List, [], ◌∷◌, ◌++◌, length, get_or, take, drop, refl, subst, sym, All, AllPairs, Option, Some}
use Rattle.rectangle_pack_sections.proofs.Std.{None, IfNone, IfSome, IsTrue, is_some, not, true, false, Bool, ◌↔◌, split_at, all_pairs_push, all_pairs_remove, remove, All-push}
use Rattle.rectangle_pack_sections.proofs.Std.{All-append, All-head, All-take, All-drop}
use Rattle.rectangle_pack_sections.specs.Boxes.{Size, Cuboid, IsInside, AreApart, SharesCell}
use Rattle.rectangle_pack_sections.specs.Bins.{IsSound, IsAccepted, Bin}
use Rattle.rectangle_pack_bins.specs.Pushes.{IsFirstSharing}
use Rattle.rectangle_pack_sections.proofs.lemmas.cuts.Boxes.{not_from_AreApart}
use Rattle.rectangle_pack_sections.proofs.lemmas.util.Lists.{All-back, AllPairs-append}

pub IsSound-push : (bin : Bin) (s : Cuboid) → IsSound bin.size bin.sections → IsAccepted bin s → IsSound bin.size (bin.sections ++ s ∷ [])
IsSound-push bin s sound accepted = record {
  inside = All-push (IsInside bin.size) bin.sections s sound.inside accepted.inside;
  apart = all_pairs_push AreApart bin.sections s sound.apart accepted.apart;
}

-- one section less leaves a sound list sound
pub IsSound-remove : (size : Size) (sections : List Cuboid) (i : ℕ) → i < length sections → IsSound size sections → IsSound size (remove sections i)
IsSound-remove size sections i within sound = record {
  inside = All-append (IsInside size) (take i sections) (drop (suc i) sections) (All-take (IsInside size) i sections sound.inside)
      (All-drop (IsInside size) (suc i) sections sound.inside);
  apart = all_pairs_remove AreApart sections i within sound.apart;
}

-- sections that are each accepted, and are apart, leave a sound list sound
pub IsSound-append : (bin : Bin) (new : List Cuboid) → IsSound bin.size bin.sections → All (IsAccepted bin) new → AllPairs AreApart new
    → IsSound bin.size (bin.sections ++ new)
IsSound-append bin new sound accepted apart = record {
  inside = All-append (IsInside bin.size) bin.sections new sound.inside (λ k d lt. (accepted k d lt).inside);
  apart = AllPairs-append AreApart bin.sections new sound.apart apart (λ k d lt. (accepted k d lt).apart);
}

-- a box that shares a cell with a section is not accepted
pub not_accepted : (bin : Bin) (box first : Cuboid) → IsFirstSharing bin.sections box first → ¬ IsAccepted bin box
not_accepted bin box first found accepted =
    let apart : All (λ s. AreApart s box) (found.before ++ first ∷ found.after) = rw found.splits at accepted.apart in
    not_from_AreApart first box (All-head (λ s. AreApart s box) first found.after (All-back (λ s. AreApart s box) found.before (first ∷ found.after) apart))
    found.shares

-- the first that shares a cell, where all before it do not
pub first_at : (sections : List Cuboid) (box : Cuboid) (i : ℕ) (s : Cuboid) → i < length sections → s ≡ get_or sections i s
    → All (λ t. AreApart t box) (take i sections) → SharesCell s box → IsFirstSharing sections box s
first_at sections box i s within read apart shares = record {
  before = take i sections;
  after = drop (suc i) sections;
  splits = subst (λ (t : Cuboid). sections ≡ take i sections ++ t ∷ drop (suc i) sections) (sym read) (split_at sections i s within);
  shares = shares;
  apart = apart;
}

-- a box inside a bin is accepted where it shares a cell with no section
pub accepts_by : (bin : Bin) (box : Cuboid) (found : Option Cuboid) (r : Bool) → is_some found ≡ not r → IsInside bin.size box
    → IfNone found (All (λ s. AreApart s box) bin.sections) → IfSome found (IsFirstSharing bin.sections box) → IsTrue r ↔ IsAccepted bin box
accepts_by bin box None true e inside apart first = (λ t. record { inside = inside; apart = apart }, λ accepted. refl)
accepts_by bin box None false e inside apart first = absurd cc
accepts_by bin box (Some s) true e inside apart first = absurd cc
accepts_by bin box (Some s) false e inside apart first = (λ t. absurd cc, λ accepted. absurd (not_accepted bin box s first accepted))

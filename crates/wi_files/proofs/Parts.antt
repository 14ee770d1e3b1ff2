-- A certificate's file that is read part by part: what was fed so far is its front.
use Rattle.std.proofs.Common.{◌≡◌, ℕ, ◌+◌, ◌<◌, ◌≤◌, true, List, [], ◌∷◌, ◌++◌, length, take, drop, length-append, append_assoc, append-nil, Option, Some, None, Ok, Err, refl, sym, ap, subst, ◌∙◌, inl, inr, arith}
use Rattle.std.proofs.Math.Seq.{drop-append_seam}
use Rattle.std.proofs.lemmas.List.{take-append-drop}
use Rattle.wi_base.specs.Shelf.{ShelfSeen, IsLonger, IsPart}
use Rattle.wi_cert.specs.declared.certificate.Certificate.{Certificate}
use Rattle.wi_cert.specs.declared.tree.TreeCertificate.{TreeCertificate}
use Rattle.wi_cert.specs.Reading.{Fed, Form, fed, finished, unread}
use Rattle.wi_cert.specs.Sheets.{Sheet, certificates}
use Rattle.wi_cert.specs.Text.{IsBadLine, IsText}
use Rattle.wi_cert.specs.Trees.{IsTreeText, TreeSheet, trees}
use Rattle.wi_cert.proofs.ReadingLemmas.{fed_append}
use Rattle.wi_cert.proofs.SoundLemmas.{decoded_is_text}
use Rattle.wi_cert.proofs.TellingLemmas.{bad_line}
use Rattle.wi_cert.proofs.TreeSoundLemmas.{decoded_is_tree}
use Rattle.wi_outcome.specs.declared.refusal.Refusal.TheVariants.{BadLine as BadCertificateLine}
use Rattle.wi_files.specs.Certificates.{FromLines, IsCertificateFile}
use Rattle.wi_files.specs.Shelves.{IsCalm}

-- bytes are the front of a file, or there is none and no byte came
abbrev pub BeginsFile : Option (List ℕ) → List ℕ → Type 0
BeginsFile None bytes = bytes ≡ []
BeginsFile (Some file) bytes = (rest : List ℕ) × (file ≡ bytes ++ rest)

nothing_begins : (file : Option (List ℕ)) → BeginsFile file []
nothing_begins None = refl
nothing_begins (Some file) = (file, refl)

-- a part that begins where the front ends makes a longer front
longer_front : (file : Option (List ℕ)) (bytes part : List ℕ) (most : ℕ) → BeginsFile file bytes → IsPart file (length bytes) most part → BeginsFile file (bytes ++ part)
longer_front None bytes part most begins is = elim is [ ]
longer_front (Some file) bytes part most begins is = (drop (length part) begins.0, whole)
  where
    behind : drop (length bytes) file ≡ begins.0
    behind = ap (λ xs. drop (length bytes) xs) begins.1 ∙ drop-append_seam bytes begins.0

    part_is : part ≡ take (length part) begins.0
    part_is = subst (λ xs. part ≡ take (length part) xs) behind is.begins

    rest_is : begins.0 ≡ part ++ drop (length part) begins.0
    rest_is = sym (take-append-drop (length part) begins.0) ∙ ap (λ xs. xs ++ drop (length part) begins.0) (sym part_is)

    whole : file ≡ (bytes ++ part) ++ drop (length part) begins.0
    whole = begins.1 ∙ (ap (λ xs. bytes ++ xs) rest_is ∙ sym (append_assoc bytes part (drop (length part) begins.0)))

pub nothing_is_left : (xs : List ℕ) → length xs ≡ 0 → xs ≡ []
nothing_is_left [] e = refl
nothing_is_left (x ∷ xs) e = absurd (omega (arith, e))

-- where an empty part comes, the front is the file
whole_front : (file : Option (List ℕ)) (bytes : List ℕ) → BeginsFile file bytes → IsPart file (length bytes) 65536 [] → file ≡ Some bytes
whole_front None bytes begins is = elim is [ ]
whole_front (Some file) bytes begins is = ap Some (begins.1 ∙ (ap (λ xs. bytes ++ xs) (nothing_is_left begins.0 count) ∙ append-nil bytes))
  where
    count : length begins.0 ≡ 0
    count = elim (is.ends refl) [
      | inl upto ↦ (let lengths : length file ≡ length bytes + length begins.0 = ap length begins.1 ∙ length-append bytes begins.0 in omega (arith, upto, lengths))
      | inr never ↦ absurd (omega (arith, never))
    ]

-- a front over the limit is that of a file over the limit
long_front : (file : Option (List ℕ)) (bytes : List ℕ) (limit : ℕ) → BeginsFile file bytes → limit < length bytes → IsLonger file limit
long_front None bytes limit begins long = let none : length bytes ≡ 0 = ap length begins in absurd (omega (arith, none, long))
long_front (Some file) bytes limit begins long = let lengths : length file ≡ length bytes + length begins.0 = ap length begins.1 ∙ length-append bytes begins.0 in omega (arith, lengths, long)

-- so many bytes were fed, and they are the file's front where the shelf tells it
pub record IsFedSoFar {S C : Type 0} (form : Form S C) (shelf : ShelfSeen) (name : List ℕ) (at : ℕ) (feeder : Fed S) : Type 0 where
  pub bytes : List ℕ
  pub begins : shelf.told ≡ true → BeginsFile (shelf.file name) bytes
  pub count : at ≡ length bytes
  pub fed_is : feeder ≡ fed form (unread form) bytes

-- the shelf stands as it was, and the bytes so far aren't too many
pub record IsReading {S C : Type 0} (form : Form S C) (old now : ShelfSeen) (name : List ℕ) (at : ℕ) (feeder : Fed S) : Type 0 where
  pub same : now ≡ old
  pub few : at ≤ 268435456
  pub so_far : IsFedSoFar form old name at feeder

-- bytes are a file's, aren't too many, and were fed
abbrev pub IsFedFile : {S C : Type 0} → Form S C → ShelfSeen → List ℕ → Fed S → Type 0
IsFedFile form shelf name feeder = (bytes : List ℕ) × IsCertificateFile shelf name bytes × (feeder ≡ fed form (unread form) bytes)

-- the part that comes is one of the shelf as it was
part_of_old : (old now : ShelfSeen) (name part : List ℕ) (at : ℕ) → now ≡ old → (now.told ≡ true → IsPart (now.file name) at 65536 part) → old.told ≡ true → IsPart (old.file name) at 65536 part
part_of_old old now name part at same is = subst (λ (s : ShelfSeen). s.told ≡ true → IsPart (s.file name) at 65536 part) same is

module _ {S C : Type 0} (form : Form S C) where
  pub nothing_fed : (old : ShelfSeen) (name : List ℕ) (feeder : Fed S) → feeder ≡ unread form → IsReading form old old name 0 feeder
  nothing_fed old name feeder is = record { same = refl; few = omega (arith); so_far = record { bytes = []; begins = λ t. nothing_begins (old.file name); count = refl; fed_is = is } }

  pub part_fed : (old now : ShelfSeen) (name part : List ℕ) (at next : ℕ) (feeder after : Fed S) → IsReading form old now name at feeder → (now.told ≡ true → IsPart (now.file name) at 65536 part) → next ≡ at + length part → after ≡ fed form feeder part
      → IsFedSoFar form old name next after
  part_fed old now name part at next feeder after reading is next_is after_is = record {
    bytes = so_far.bytes ++ part;
    begins = λ t. longer_front (old.file name) so_far.bytes part 65536 (so_far.begins t) (subst (λ n. IsPart (old.file name) n 65536 part) so_far.count (part_of_old old now name part at reading.same is t));
    count = next_is ∙ (ap (λ n. n + length part) so_far.count ∙ sym (length-append so_far.bytes part));
    fed_is = after_is ∙ (ap (λ f. fed form f part) so_far.fed_is ∙ sym (fed_append form (unread form) so_far.bytes part));
  }
    where
      so_far : IsFedSoFar form old name at feeder
      so_far = reading.so_far

  -- so one part more was fed
  pub reading_on : (old now later : ShelfSeen) (name part : List ℕ) (at count : ℕ) (feeder after : Fed S) → IsReading form old now name at feeder → later ≡ now → (now.told ≡ true → IsPart (now.file name) at 65536 part)
      → count ≡ length part → at + count ≤ 268435456 → after ≡ fed form feeder part → IsReading form old later name (at + count) after
  reading_on old now later name part at count feeder after reading still is count_is few after_is = record {
    same = still ∙ reading.same;
    few = few;
    so_far = part_fed old now name part at (at + count) feeder after reading is (ap (λ n. at + n) count_is) after_is;
  }

  -- where an empty part comes, the file was fed whole
  pub all_fed : (old now : ShelfSeen) (name part : List ℕ) (at : ℕ) (feeder : Fed S) → IsReading form old now name at feeder → (now.told ≡ true → IsPart (now.file name) at 65536 part) → part ≡ [] → IsFedFile form old name feeder
  all_fed old now name part at feeder reading is none = (so_far.bytes, record { held = held; short = subst (λ n. n ≤ 268435456) so_far.count reading.few }, so_far.fed_is)
    where
      so_far : IsFedSoFar form old name at feeder
      so_far = reading.so_far

      held : old.told ≡ true → old.file name ≡ Some so_far.bytes
      held t = whole_front (old.file name) so_far.bytes (so_far.begins t) (subst (λ n. IsPart (old.file name) n 65536 []) so_far.count (subst (λ xs. IsPart (old.file name) at 65536 xs) none (part_of_old old now name part at reading.same is t)))

  -- too many bytes were fed
  pub too_many_fed : (old : ShelfSeen) (name : List ℕ) (at : ℕ) (feeder : Fed S) → IsFedSoFar form old name at feeder → 268435456 < at → old.told ≡ true → IsLonger (old.file name) 268435456
  too_many_fed old name at feeder so_far long t = long_front (old.file name) so_far.bytes 268435456 (so_far.begins t) (subst (λ n. 268435456 < n) so_far.count long)

  -- the first bad line of the fed bytes
  pub fed_badly : (old new : ShelfSeen) (name : List ℕ) (n : ℕ) (feeder : Fed S) → IsCalm old new → IsFedFile form old name feeder → finished form feeder ≡ Err n → FromLines (IsBadLine form) old new name (BadCertificateLine n)
  fed_badly old new name n feeder calm all finishes = (calm, (all.0, all.1, bad_line form all.0 n (subst (λ f. finished form f ≡ Err n) all.2 finishes)))

-- the certificate that the fed bytes spell
pub fed_text : (c : Certificate) (shelf : ShelfSeen) (name : List ℕ) (feeder : Fed Sheet) → IsFedFile certificates shelf name feeder → finished certificates feeder ≡ Ok c → (bytes : List ℕ) × IsCertificateFile shelf name bytes × IsText c bytes
fed_text c shelf name feeder all finishes = (all.0, all.1, decoded_is_text c all.0 (subst (λ f. finished certificates f ≡ Ok c) all.2 finishes))

-- or the tree
pub fed_tree : (t : TreeCertificate) (shelf : ShelfSeen) (name : List ℕ) (feeder : Fed TreeSheet) → IsFedFile trees shelf name feeder → finished trees feeder ≡ Ok t → (bytes : List ℕ) × IsCertificateFile shelf name bytes × IsTreeText t bytes
fed_tree t shelf name feeder all finishes = (all.0, all.1, decoded_is_tree t all.0 (subst (λ f. finished trees f ≡ Ok t) all.2 finishes))

-- There is an answer: what the contracts ask for can be given, for any list of calls and any list of logs. Assumes
-- nothing.
use mathlib.Core.Path.{◌≡◌, refl}
use mathlib.Core.Bool.{Bool, true, false}
use mathlib.Core.List.{List, [], ◌∷◌}
use Prim.Native.Nat.{ℕ}
use borrow.Author.Tests.{eqb-true, eqb-false}
use lib.Dec.{eqb}
use lib.ListN.{length}
use Rattle.demands.specs.Calls.{Step, make_book, open_day, take_record, end_day, abandon_day, ask_book, lend_findings}
use Rattle.demands.specs.Calls.{number_in, Desk, Given, Gives, fresh_gives, open_gives, take_gives, end_gives}
use Rattle.demands.specs.Calls.{abandon_gives, ask_gives, lend_gives, none, next}
use Rattle.daylog.specs.Rows.{front, row_size, rows_of, is_end}
use Rattle.demands.specs.Logs.{Reads, stops, cut, takes, take_refused, end_refused, ends, follows, clerk_desk}
use Rattle.demands.specs.Logs.{Judges, open_refused, opened, file_after, none as no_log, next as one_log}
use Rattle.demands.specs.Demand1.{AlwaysAnswered}
use Rattle.demands.specs.Demand2.{AlwaysRead}

record Reply (w : Desk) (c : Step) : Type 0 where
  given : Given
  gives : Gives w c given

reply : (w : Desk) (c : Step) → Reply w c
reply w (make_book rulebook) = record { given = _; gives = fresh_gives (record { answer = refl; after = refl }) }
reply w (open_day log) = record { given = _; gives = open_gives (record { answer = refl; after = refl }) }
reply w (take_record row) = record { given = _; gives = take_gives (record { answer = refl; after = refl }) }
reply w (end_day row) = record { given = _; gives = end_gives (record { answer = refl; after = refl }) }
reply w abandon_day = record { given = _; gives = abandon_gives refl }
reply w (ask_book group kind family) = record { given = _; gives = ask_gives refl }
reply w (lend_findings out) = record { given = _; gives = lend_gives }

pub answers : AlwaysAnswered
answers w [] = record { given = []; ran = none }
answers w (c ∷ cs) =
    let r = reply w c in
    let more = answers r.given.after cs in
    record { given = r.given ∷ more.given; ran = next r.gives more.ran }

-- ---- logs
record Left (w : Desk) (rows : List (List ℕ)) : Type 0 where
  number : ℕ
  after : Desk
  reads : Reads w rows number after

end_row_lem : (w : Desk) (row : List ℕ) (more : List (List ℕ)) → eqb (length row) (row_size w.log) ≡ true
    → is_end row ≡ true → Left w (row ∷ more)
end_row_lem w row more e f = go more (eqb (number_in (reply w (end_day row)).given.reply) 0) refl
  where
    go : (more : List (List ℕ)) (t : Bool) → eqb (number_in (reply w (end_day row)).given.reply) 0 ≡ t
        → Left w (row ∷ more)
    go more false q = record {
      number = _;
      after = _;
      reads = end_refused e f (reply w (end_day row)).gives
          (eqb-false _ 0 q);
    }
    go [] true q = record { number = _; after = _; reads = ends e f (reply w (end_day row)).gives (eqb-true _ 0 q) }
    go (x ∷ more) true q = record {
      number = _;
      after = _;
      reads = follows e f (reply w (end_day row)).gives
          (eqb-true _ 0 q);
    }

take_row : (w : Desk) (row : List ℕ) (more : List (List ℕ)) → eqb (length row) (row_size w.log) ≡ true
    → is_end row ≡ false → Left (reply w (take_record row)).given.after more → Left w (row ∷ more)
take_row w row more e f l = go (eqb (number_in (reply w (take_record row)).given.reply) 0) refl
  where
    go : (t : Bool) → eqb (number_in (reply w (take_record row)).given.reply) 0 ≡ t → Left w (row ∷ more)
    go true q = record {
      number = _;
      after = _;
      reads = takes e f (reply w (take_record row)).gives (eqb-true _ 0 q)
          l.reads;
    }
    go false q = record {
      number = _;
      after = _;
      reads = take_refused e f (reply w (take_record row)).gives
          (eqb-false _ 0 q);
    }

read_rows : (w : Desk) (rows : List (List ℕ)) → Left w rows
read_rows w [] = record { number = 1; after = w; reads = stops }
read_rows w (row ∷ more) =
    go (eqb (length row) (row_size w.log)) (is_end row) refl refl
    (read_rows (reply w (take_record row)).given.after more)
  where
    go : (s t : Bool) → eqb (length row) (row_size w.log) ≡ s → is_end row ≡ t
        → Left (reply w (take_record row)).given.after more → Left w (row ∷ more)
    go false t e f l = record { number = 1; after = w; reads = cut e }
    go true true e f l = end_row_lem w row more e f
    go true false e f l = take_row w row more e f l

record Log (book log : List ℕ) : Type 0 where
  number : ℕ
  after : Desk
  judges : Judges book log number after

read_log : (book log : List ℕ) → Log book log
read_log book log = go (eqb (number_in (reply (clerk_desk book) (open_day (front log))).given.reply) 0) refl
  where
    go : (t : Bool) → eqb (number_in (reply (clerk_desk book) (open_day (front log))).given.reply) 0 ≡ t → Log book log
    go true q =
        let l = read_rows (reply (clerk_desk book) (open_day (front log))).given.after (rows_of log) in
        record {
          number = l.number;
          after = l.after;
          judges =
              opened (reply (clerk_desk book) (open_day (front log))).gives (eqb-true _ 0 q) l.reads;
        }
    go false q = record {
      number = _;
      after = _;
      judges =
          open_refused (reply (clerk_desk book) (open_day (front log))).gives (eqb-false _ 0 q);
    }

pub reads : AlwaysRead
reads book [] = record { judged = []; all = no_log }
reads book (log ∷ logs) =
    let l = read_log book log in
    let more = reads (file_after book l.number l.after) logs in
    record { judged = _; all = one_log l.judges more.all }

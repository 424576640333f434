-- `repeats::first_meeting` meets its contract: the earlier of two first beginnings. Assumes nothing.
use Rattle.std.proofs.Common.{sym, subst}
use Rattle.repeats.proofs.Joining.{Both, also_begins, AlsoBegins, only_other, other_first, later_first}
use Rattle.repeats.proofs.first_meeting.Goals.{After-exchange-other}
use Rattle.repeats.proofs.first_meeting.Goals as goal

abbrev here : After-exchange-other → Both
here c =
    record {
      a = c.args.a;
      b = c.args.b;
      later = c.first_beginning-later.result;
      other = c.exchange-other.result;
      brief = c.requires.brief;
      brief' = c.requires.brief_2;
      told = c.first_beginning-later.ensures;
      also =
          subst (AlsoBegins c.args.a c.args.b) (sym c.exchange-other.ensures)
          (also_begins c.args.a c.args.b c.first_beginning.result c.first_beginning.ensures);
    }

pub returns-in_default : goal.returns-in_default
returns-in_default c = let p : Both = here (goal.at.returns-in_default c).After-exchange-other in search (only_other p)

pub returns-then-y-x : goal.returns-then-y-x
returns-then-y-x c = let p : Both = here (goal.at.returns-then-y-x c).After-exchange-other in search (other_first p)

pub returns : goal.returns
returns c = let p : Both = here (goal.at.returns c).After-exchange-other in search (later_first p)

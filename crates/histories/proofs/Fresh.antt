-- Before anything has happened, all that every history keeps is true.
use Rattle.histories.specs.Columns.{fresh}
use Rattle.histories.specs.Past.{Past}

pub fresh_past : Past fresh
fresh_past = record {
  formed = record {
    names_opened = absurd;
    asked_names = absurd;
    released_asked = λ r. absurd r.1;
    confirmed_released = absurd;
    released_once = λ p q. absurd p;
    released_past = absurd;
    released_decided = λ a k. no (λ r. r.1);
    close_asked_opened = absurd;
    close_asked_confirmed = λ h n. absurd h;
    closed_opened = λ c. absurd c.1;
    closed_once = λ c d. absurd c;
    closed_past = absurd;
    closed_decided = λ a. no (λ c. c.1);
  };
  closed_in_order = record { closed_first = λ p c. absurd c };
}

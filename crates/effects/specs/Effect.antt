-- The small changes of the tables, as changes of what can be seen. Assumes nothing: these are definitions.
use Rattle.std.specs.Prelude.{ℕ, suc, ◌+◌, ◌-◌, Bool, true, false, not, ◌&&◌, ◌||◌, eqb, ltb}
use Rattle.loops.specs.Sum.{tally}
use Rattle.mask.specs.Member.{holds}
use Rattle.effects.specs.View.{View}

-- slot j is asked, confirmed at database k; its close is held
abbrev pub asked_at : View → ℕ → ℕ → View
asked_at v j k = record {
  in_mask = v.in_mask;
  names = v.names;
  asked = λ a u. eqb a j && eqb u k || v.asked a u;
  released = v.released;
  confirmed = v.confirmed;
  is_open = v.is_open;
  held = v.held;
  ticket = v.ticket;
  count = v.count;
  opened = v.opened;
  dep = v.dep;
  candidate = v.candidate;
}

abbrev pub confirmed_at : View → ℕ → ℕ → View
confirmed_at v j k = record {
  in_mask = v.in_mask;
  names = v.names;
  asked = v.asked;
  released = v.released;
  confirmed = λ a u. eqb a j && eqb u k || v.confirmed a u;
  is_open = v.is_open;
  held = v.held;
  ticket = v.ticket;
  count = v.count;
  opened = v.opened;
  dep = v.dep;
  candidate = v.candidate;
}

abbrev pub held_at : View → ℕ → View
held_at v j = record {
  in_mask = v.in_mask;
  names = v.names;
  asked = v.asked;
  released = v.released;
  confirmed = v.confirmed;
  is_open = v.is_open;
  held = λ a. eqb a j || v.held a;
  ticket = v.ticket;
  count = v.count;
  opened = v.opened;
  dep = v.dep;
  candidate = v.candidate;
}

-- slot j is released at database k, and goes there before each that names it and is not released
abbrev pub released_at : View → ℕ → ℕ → View
released_at v j k = record {
  in_mask = v.in_mask;
  names = v.names;
  asked = v.asked;
  released = λ a u. eqb a j && eqb u k || v.released a u;
  confirmed = v.confirmed;
  is_open = v.is_open;
  held = v.held;
  ticket = v.ticket;
  count = v.count;
  opened = v.opened;
  dep = λ u a b. eqb u k && eqb a j && v.names b k && not (eqb b j) && not (v.released b k) || v.dep u a b;
  candidate = v.candidate;
}

-- a job takes slot n, with ticket t and mask m: whoever is released at a database that it names goes before it there
abbrev pub entered_at : View → ℕ → ℕ → ℕ → ℕ → View
entered_at v n m t next = record {
  in_mask = λ a u. eqb a n && holds m u || v.in_mask a u;
  names = λ a u. eqb a n && holds m u || v.names a u;
  asked = v.asked;
  released = v.released;
  confirmed = v.confirmed;
  is_open = λ a. eqb a n || v.is_open a;
  held = v.held;
  ticket = λ a. elim (eqb a n) [ true ↦ t | false ↦ v.ticket a ];
  count = suc v.count;
  opened = λ i. elim (eqb i v.count) [ true ↦ n | false ↦ v.opened i ];
  dep = λ u a b. eqb b n && holds m u && v.released a u || v.dep u a b;
  candidate = next;
}

-- the dependencies found go into slot n: `found a u` from slot a at database u
abbrev pub found_at : View → ℕ → (ℕ → ℕ → Bool) → View
found_at v n found = record {
  in_mask = v.in_mask;
  names = v.names;
  asked = v.asked;
  released = v.released;
  confirmed = v.confirmed;
  is_open = v.is_open;
  held = v.held;
  ticket = v.ticket;
  count = v.count;
  opened = v.opened;
  dep = λ u a b. eqb b n && found a u || v.dep u a b;
  candidate = v.candidate;
}

-- the job in slot j, at place p of the opening order, is gone with all its dependencies
abbrev pub removed_at : View → ℕ → ℕ → View
removed_at v j p = record {
  in_mask = λ a u. not (eqb a j) && v.in_mask a u;
  names = λ a u. not (eqb a j) && v.names a u;
  asked = λ a u. not (eqb a j) && v.asked a u;
  released = λ a u. not (eqb a j) && v.released a u;
  confirmed = λ a u. not (eqb a j) && v.confirmed a u;
  is_open = λ a. not (eqb a j) && v.is_open a;
  held = λ a. not (eqb a j) && v.held a;
  ticket = λ a. elim (eqb a j) [ true ↦ 0 | false ↦ v.ticket a ];
  count = v.count - 1;
  opened = λ i. v.opened (i + tally (not (ltb i p)));
  dep = λ u a b. not (eqb a j) && not (eqb b j) && v.dep u a b;
  candidate = v.candidate;
}

-- no job is open, and n is the candidate
abbrev pub nothing_open : ℕ → View
nothing_open n = record {
  in_mask = λ a u. false;
  names = λ a u. false;
  asked = λ a u. false;
  released = λ a u. false;
  confirmed = λ a u. false;
  is_open = λ a. false;
  held = λ a. false;
  ticket = λ a. 0;
  count = 0;
  opened = λ i. 0;
  dep = λ u a b. false;
  candidate = n;
}

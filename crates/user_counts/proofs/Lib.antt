mod TallyLemmas

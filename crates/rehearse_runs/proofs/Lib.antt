mod DiaryLemmas
